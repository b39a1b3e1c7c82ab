-- The order of records, and the theorem that the scan takes the last entry of each key.
use Rattle.std.specs.Prelude.{◌≡◌, ℕ, List, [], ◌∷◌, ◌↔◌, Some, None}
use Rattle.std.specs.FinMap as entries
use Rattle.bk_record.specs.Key.{EntryKey}
use Rattle.bk_record.specs.Location.{Place, Precedes}
use Rattle.bk_record.specs.Files.{Files, all_records, In}
use Rattle.bk_record.specs.Scan.{scan_of}
use Rattle.bk_record.specs.Entry.{HasNoEntry, IsLastRecord}

-- each record of the list precedes those after it
abbrev pub AreInOrder : List (Place × List ℕ) → Type 0
AreInOrder [] = Unit {0}
AreInOrder (record_here ∷ behind) = ((place : Place) (payload : List ℕ) → In (place, payload) behind → Precedes record_here.0 place) × AreInOrder behind

-- All records are in order of log, then position. The scan gives a key the payload of its last
-- entry, and nothing exactly if no entry has the key.
pub record ScanTakesLast (files : Files) : Type 0 where
  pub in_order : AreInOrder (all_records files)
  pub found : (key : EntryKey) (payload : List ℕ)
      → (entries.get (scan_of files) key ≡ Some payload) ↔ ((place : Place) × IsLastRecord files place key payload)
  pub missing : (key : EntryKey) → (entries.get (scan_of files) key ≡ None) ↔ HasNoEntry files key
