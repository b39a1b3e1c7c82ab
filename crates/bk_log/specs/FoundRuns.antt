-- Runs of entries that a scan passes at once. Read `founds_of`, then `RunMoves` and `AreEntriesOf`: the
-- contract of `next_run`.
use Rattle.std.specs.Prelude.{◌≡◌, ℕ, zero, suc, ◌+◌, ◌*◌, ◌≤◌, ◌<◌, ◌^◌, IsTrue, List, [], ◌∷◌, length, Some}
use Rattle.std.specs.Prelude.{slice_get}
use Rattle.bk_log.specs.declared.found.Found.{Found}
use Rattle.bk_log.specs.declared.found.FoundRun.{FoundRun}
use Rattle.bk_log.specs.Places.{HasEntryAt}
use Rattle.bk_log.specs.Ranges.{entries_in}
use Rattle.bk_log.specs.Scanning.{Scan, is_going, part_of}

-- entry of the same ledger and size directly behind another, with the next entry id
abbrev pub found_adjacent : Found → Found
found_adjacent found = record {
  key = record { ledger = found.key.ledger; entry = found.key.entry + 1 };
  at = found.at + found.size;
  size = found.size;
}

-- so many entries, from the first on
abbrev pub founds_from : Found → ℕ → List Found
founds_from found zero = []
founds_from found (suc count) = found ∷ founds_from (found_adjacent found) count

-- the entries of a run, in order
abbrev pub founds_of : FoundRun → List Found
founds_of run = founds_from run.first run.count

-- the bytes of the records of a run
abbrev pub bytes_of_run : FoundRun → ℕ
bytes_of_run run = run.count * run.first.size

-- the entry is the one at this place of the part, in the order of the file
pub record IsEntryOf (s : Scan) (place : ℕ) (found : Found) : Type 0 where
  pub payload : List ℕ
  pub listed : slice_get (entries_in s.from (part_of s)) place ≡ Some (found.at, payload)
  pub stands : HasEntryAt s.file found.at found.key payload
  pub sized : found.size ≡ 4 + length payload

-- the entries are those of the part from this place on
abbrev pub AreEntriesOf : Scan → ℕ → List Found → Type 0
AreEntriesOf s place [] = Unit {0}
AreEntriesOf s place (found ∷ later) = IsEntryOf s place found × AreEntriesOf s (place + 1) later

-- Effect of `next_run` on any view: a run of at least one record was passed. It begins in the part,
-- and after it are the bytes that are left now.
pub record RunMoves (s : Scan) (run : FoundRun) (s' : Scan) : Type 0 where
  pub going : IsTrue (is_going s)
  pub some : 0 < run.count
  pub long : 20 ≤ run.first.size
  pub bytes : 20 ≤ bytes_of_run run
  pub ids : run.first.key.entry + run.count ≤ 2 ^ 63
  pub begins : s.from + 4 ≤ run.first.at
  pub ends : run.first.at + bytes_of_run run + s'.left ≡ s.end + 4
  pub fewer : s'.left + bytes_of_run run ≡ s.left
  pub scan_is : s' ≡ record s { left = s'.left; given = s.given + run.count }
