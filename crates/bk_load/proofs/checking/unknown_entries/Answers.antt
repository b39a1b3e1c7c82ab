use Rattle.std.proofs.Common.{◌+◌, ◌<◌, ◌^◌, List, length, inl, sym, subst, ◌∙◌, arith}
use Rattle.std.specs.FinMap as map
use Rattle.bk_record.specs.Key.{EntryKey}
use Rattle.bk_record.specs.Location.{Place}
use Rattle.bk_load.proofs.checking.unknown_entries.Goals as goal

pub count-requires-clause-fits : goal.count-requires-clause-fits
count-requires-clause-fits c =
    let few : 0 + length (map.entries c.args.index.now) < 2 ^ 64 = omega (arith, map.len-entries c.args.index.now, c.len-keys.ensures) in
    inl (subst (λ (l : List (EntryKey × Place)). 0 + length l < 2 ^ 64) (sym (c.filter.ensures.source ∙ c.walk.ensures)) few)
