use Rattle.std.proofs.Common.{◌≡◌, ◌<◌, ◌-◌, length, get_or, ◌∙◌, arith, rules}
use Rattle.std.specs.declared.cmp.Ordering.TheVariants.{Less}
use Rattle.bk_record.specs.Key.{key_cmp}
use Rattle.bk_index.proofs.KeyPlaces.{gap_at_end}
use Rattle.bk_index.proofs.page.plain.Plain.place_for.Goals as goal

pub returns-then-lt-clause-absent : goal.returns-then-lt-clause-absent
returns-then-lt-clause-absent c =
    let pairs = c.self.inside.pairs.items in
    let last = c.index.result.now in
    let less : key_cmp last.0 c.args.key.now ≡ Less = search rules in
    let count : c.len-count.result ≡ length pairs = c.len-count.ensures ∙ c.self.inside.pairs.ok.0 in
    let some : 0 < length pairs = omega (arith, count, c.if-count-gt0.true) in
    let read : last ≡ get_or pairs (length pairs - 1) last = rw (← count) c.index.ensures in
    rw (← c.self.view_is, count) (gap_at_end pairs c.self.invariant c.args.key.now last some read less)
