-- A log that an honest disk lists is there.
use Rattle.std.proofs.Common.{◌≡◌, ℕ, ◌<◌, List, length, get_or, IsSome, ap, ◌∙◌, sym, nat_cmp}
use Rattle.std.proofs.lemmas.Map.Keys.{any_passes_from_place}
use Rattle.std.proofs.lemmas.Option.{slice_get-get_or}
use Rattle.std.specs.Cmp.{nat_cmp_total, tied_itself}
use Rattle.std.specs.List.{list_any}
use Rattle.std.specs.Ordering.{eq_by_cmp, is_eq}
use Rattle.std.specs.FinMap as map
use Rattle.bk_record.specs.Files.{Files}

-- the log that stands at a place of the list
pub listed_is_there : (fs : Files) (ids : List ℕ) (i : ℕ) → ids ≡ map.keys fs → i < length ids → IsSome (map.get fs (get_or ids i 0))
listed_is_there fs ids i is inside =
    let log = get_or ids i 0 in
    map.contains_key-keys fs log ∙ ap (list_any (eq_by_cmp nat_cmp log)) (sym is)
    ∙ any_passes_from_place (eq_by_cmp nat_cmp log) ids i log (slice_get-get_or ids i 0 inside) (ap is_eq (tied_itself nat_cmp_total log))
