-- Entries in logs, by their places.
use Rattle.std.specs.Prelude.{◌≡◌, ℕ, false, List, Some, None}
use Rattle.std.specs.FinMap as finite
use Rattle.std.specs.FinSet as set
use Rattle.bk_record.specs.Key.{EntryKey}
use Rattle.bk_record.specs.Location.{Place}
use Rattle.bk_record.specs.Record.{key_of}
use Rattle.bk_record.specs.Files.{records_of, In}
use Rattle.bk_record.specs.Location.{Precedes}
use Rattle.bk_record.specs.Scan.{Ledgers}
use Rattle.bk_record.specs.Keyed.{Places}

-- the bytes of each log, by id; none if there is no such log
abbrev pub Bytes : Type 0
Bytes = ℕ → List ℕ

-- an entry of the key, with this payload, is at the place
pub record HasEntry (bytes : Bytes) (place : Place) (key : EntryKey) (payload : List ℕ) : Type 0 where
  pub stands : In (place.at, payload) (records_of (bytes place.log))
  pub keyed : key_of payload ≡ Some key

-- the last entry of the key is at the place
pub record IsLastEntry (bytes : Bytes) (place : Place) (key : EntryKey) (payload : List ℕ) : Type 0 where
  pub here : HasEntry bytes place key payload
  pub last : (other : Place) (payload' : List ℕ) → HasEntry bytes other key payload' → ¬ (Precedes place other)

-- The index of all entries in these bytes: each key of a live ledger with an entry points to its
-- last one, and there is no other key.
pub record IsIndexOf (bytes : Bytes) (dead : Ledgers) (index : Places) : Type 0 where
  pub sent : (key : EntryKey) (place : Place) → finite.get index key ≡ Some place → (payload : List ℕ) × IsLastEntry bytes place key payload
  pub lives : (key : EntryKey) (place : Place) → finite.get index key ≡ Some place → set.contains dead key.ledger ≡ false
  pub missing : (key : EntryKey) → finite.get index key ≡ None → set.contains dead key.ledger ≡ false
      → (place : Place) (payload : List ℕ) → ¬ (HasEntry bytes place key payload)
