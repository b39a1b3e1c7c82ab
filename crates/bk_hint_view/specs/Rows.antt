-- The rows of a table: runs of entries, whose records have to be in the log. Read `IsTrueTable` first.
use Rattle.std.specs.Prelude.{◌≡◌, ℕ, ◌+◌, ◌-◌, ◌*◌, ◌^◌, ◌<◌, ◌≤◌, ◌==◌, ◌&&◌, Bool, true, false, List, [], ◌∷◌, ◌++◌, drop, slice_get, Some}
use Rattle.std.specs.Int.{w32, w64, to_be_bytes}
use Rattle.std.specs.List.{All}
use Rattle.bk_disk.specs.Blocks.{HasPrefix}
use Rattle.bk_disk.specs.declared.record_run.RecordRun.{RecordRun}
use Rattle.bk_hint.specs.declared.listed.Listed.{Listed}
use Rattle.bk_hint.specs.declared.runs.ListedRun.{ListedRun}
use Rattle.bk_hint.specs.Checking.{repeated_by}
use Rattle.bk_hint.specs.Runs.{entries_of_runs}

-- first 20 bytes of an entry's record: length of the payload in four bytes, ledger id and entry id in
-- eight bytes each, big-endian
unfoldable pub head_of : Listed → List ℕ
head_of entry = to_be_bytes w32 (entry.size - 4) ++ (to_be_bytes w64 entry.key.ledger ++ to_be_bytes w64 entry.key.entry)

-- The entries are records of the file: each has its head there, four bytes before its payload.
abbrev pub AreRecords : List ℕ → List Listed → Type 0
AreRecords file entries = All (λ entry. HasPrefix (drop (entry.at - 4) file) (head_of entry)) entries

-- The table is true of the bytes of a log: the entries of its runs are records of it.
abbrev pub IsTrueTable : List ListedRun → List ℕ → Type 0
IsTrueTable rows bytes = AreRecords bytes (entries_of_runs rows)

-- `front` is a prefix of the bytes
abbrev pub is_front : List ℕ → List ℕ → Bool
is_front [] bytes = true
is_front (b ∷ front) [] = false
is_front (b ∷ front) (c ∷ bytes) = (b == c) && is_front front bytes

-- `AreRecords`, as a test
abbrev pub are_records : List ℕ → List Listed → Bool
are_records file [] = true
are_records file (entry ∷ entries) = is_front (head_of entry) (drop (entry.at - 4) file) && are_records file entries

-- `IsTrueTable`, as a test
abbrev pub is_true_table : List ListedRun → List ℕ → Bool
is_true_table rows bytes = are_records bytes (entries_of_runs rows)

-- The run goes on directly behind another: with the next entry id, at the next position, and with
-- records of its size. Both together fit in one.
pub record IsNextRun (last run : ListedRun) : Type 0 where
  pub first_is : run.first ≡ repeated_by (last.again + 1) last.first
  pub fits : last.again + run.again + 1 < 2 ^ 32

-- The records are those of a run from the one whose payload is at this position on: all of them, or
-- fewer.
pub record IsRestOf (row : ListedRun) (payload : ℕ) (run : RecordRun) : Type 0 where
  pub place : ℕ
  pub payload_is : payload ≡ row.first.at + place * row.first.size
  pub first_is : run.first ≡ record { ledger = row.first.key.ledger; entry = row.first.key.entry + place }
  pub size_is : run.size ≡ row.first.size
  pub within : place + run.count ≤ row.again + 1

-- the records are those of a row of the table from the one at this position on
abbrev pub IsRestIn : List ListedRun → ℕ → RecordRun → Type 0
IsRestIn rows at run = (number : ℕ) × ((row : ListedRun) × ((slice_get rows number ≡ Some row) × IsRestOf row (at + 4) run))
