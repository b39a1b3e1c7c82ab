use Rattle.std.proofs.Common.{sym}
use Rattle.bk_index.proofs.PagePairs.{put_absent, is_sorted_put_page}
use Rattle.bk_index.proofs.page.plain.Plain.insert.Goals as goal

pub invariant_of-self-2 : goal.invariant_of-self-2
invariant_of-self-2 c =
    let gap = rw (← c.self.view_is) at c.requires in
    rw (c.in_ok-insert.ensures.items, ← put_absent _ c.self.invariant c.args.key c.args.place gap c.args.location)
    (is_sorted_put_page _ c.self.invariant c.args.key c.args.location)

pub returns-clause-ok : goal.returns-clause-ok
returns-clause-ok c =
    let gap = rw (← c.self.view_is) at c.requires in
    rw (c.in_ok-insert.ensures.items, ← c.self.view_is) (sym (put_absent _ c.self.invariant c.args.key c.args.place gap c.args.location))
