use Rattle.std.proofs.Common.{◌≡◌, ◌<◌, length, arith, rules}
use Rattle.std.specs.declared.cmp.Ordering.TheVariants.{Less}
use Rattle.bk_record.specs.Key.{key_cmp}
use Rattle.bk_cache.proofs.KeyPlaces.{gap_at_end}
use Rattle.bk_cache.proofs.page.places.place_for.Goals as goal

pub returns-then-lt-clause-absent : goal.returns-then-lt-clause-absent
returns-then-lt-clause-absent c =
    let pairs = c.args.pairs.now in
    let last = c.index-pairs-count.result in
    let less : key_cmp last.0 c.args.key.now ≡ Less = search rules in
    let some : 0 < length pairs = omega arith in
    gap_at_end pairs c.requires c.args.key.now last some c.index-pairs-count.is less
