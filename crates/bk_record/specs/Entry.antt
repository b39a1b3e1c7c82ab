-- Entries in files: records with a key, each at its place.
use Rattle.std.specs.Prelude.{◌≡◌, ℕ, List, ◌⊎◌, Some}
use Rattle.bk_record.specs.Key.{EntryKey}
use Rattle.bk_record.specs.Location.{Place, Precedes}
use Rattle.bk_record.specs.Record.{key_of}
use Rattle.bk_record.specs.Files.{Files, HasRecord}

-- at `place` there is a record with this payload and this key
pub record HasKeyedRecord (files : Files) (place : Place) (key : EntryKey) (payload : List ℕ) : Type 0 where
  pub stands : HasRecord files place payload
  pub keyed : key_of payload ≡ Some key

-- no record of the files has the key
abbrev pub HasNoEntry : Files → EntryKey → Type 0
HasNoEntry files key = (place : Place) (payload : List ℕ) → ¬ (HasKeyedRecord files place key payload)

-- The record at `place` is the last entry of the key: every other one precedes it.
pub record IsLastRecord (files : Files) (place : Place) (key : EntryKey) (payload : List ℕ) : Type 0 where
  pub here : HasKeyedRecord files place key payload
  pub last : (other : Place) (held : List ℕ) → HasKeyedRecord files other key held → (other ≡ place) ⊎ Precedes other place
