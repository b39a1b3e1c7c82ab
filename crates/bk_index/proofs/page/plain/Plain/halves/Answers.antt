use Rattle.std.proofs.Common.{sym, ◌∙◌}
use Rattle.bk_index.proofs.PagePairs.{put_absent, is_sorted_parts}
use Rattle.bk_index.proofs.page.plain.Plain.halves.Goals as goal

pub invariant_of-result : goal.invariant_of-result
invariant_of-result c =
    let pairs = c.self.inside.pairs.items in
    let gap = rw (← c.self.view_is) at c.requires.gap in
    let all = rw c.deref.ensures.value at c.in_ok-lower.ensures.all in
    (is_sorted_parts pairs c.self.invariant c.args.key c.args.location c.in_ok-lower.lower.items c.in_ok-lower.upper.items
    (all ∙ sym (put_absent pairs c.self.invariant c.args.key c.args.place gap c.args.location))).0

pub invariant_of-result-2 : goal.invariant_of-result-2
invariant_of-result-2 c =
    let pairs = c.self.inside.pairs.items in
    let gap = rw (← c.self.view_is) at c.requires.gap in
    let all = rw c.deref.ensures.value at c.in_ok-lower.ensures.all in
    (is_sorted_parts pairs c.self.invariant c.args.key c.args.location c.in_ok-lower.lower.items c.in_ok-lower.upper.items
    (all ∙ sym (put_absent pairs c.self.invariant c.args.key c.args.place gap c.args.location))).1

pub returns-clause-ok : goal.returns-clause-ok
returns-clause-ok c =
    let pairs = c.self.inside.pairs.items in
    let gap = rw (← c.self.view_is) at c.requires.gap in
    let all = rw c.deref.ensures.value at c.in_ok-lower.ensures.all in
    rw (← c.self.view_is) (all ∙ sym (put_absent pairs c.self.invariant c.args.key c.args.place gap c.args.location))
