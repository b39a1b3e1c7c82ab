-- Passing adjacent pairs whose locations are in one log.
use Rattle.std.specs.Prelude.{◌≡◌, ℕ, ◌<◌, List, ◌++◌, length}
use Rattle.std.specs.List.{AllByRecursion}
use Rattle.bk_record.specs.Key.{EntryKey}
use Rattle.bk_record.specs.Location.{Place}

-- so many first pairs, at least one, have locations in the log, and the others are left
pub record PassesLog (pairs : List (EntryKey × Place)) (log count : ℕ) (left : List (EntryKey × Place)) : Type 0 where
  pub passed : List (EntryKey × Place)
  pub split : pairs ≡ passed ++ left
  pub many : length passed ≡ count
  pub some : 0 < count
  pub same : AllByRecursion (λ pair. pair.1.log ≡ log) passed
