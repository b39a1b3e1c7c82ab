-- The logs of a disk in memory as files. `IsListing` is the precondition of a disk made from files.
use Rattle.std.specs.Prelude.{ℕ, ◌<◌, ◌^◌, nat_eq, List, map, length, Vec}
use Rattle.std.specs.Global.{Global}
use Rattle.std.specs.List.{All, IsDistinct}
use Rattle.std.specs.BTreeMap.{BTreeMap}
use Rattle.std.specs.FinMap as files
use Rattle.bk_record.specs.Files.{Files}

-- the files of a map from ids to logs
abbrev pub files_of : BTreeMap ℕ (List ℕ) → Files
files_of logs = files.from_entries logs.entries

-- the ids and the bytes of a list of files
abbrev pub listed : List (ℕ × Vec ℕ Global) → List (ℕ × List ℕ)
listed found = map (λ f. (f.0, f.1.items)) found

-- Files that a disk can be made of: the ids are distinct, and each file is within the limits of an
-- entry log.
pub record IsListing (found : List (ℕ × List ℕ)) : Type 0 where
  pub apart : IsDistinct nat_eq (map (λ f. f.0) found)
  pub ids : All (λ f. f.0 < 2 ^ 31) found
  pub sizes : All (λ f. length f.1 < 2 ^ 32) found
