-- What a crash may leave of the logs of a disk, and which facts make a store survive it. Read
-- `MayLeave` and `IsBetween` first.
use Rattle.std.specs.Prelude.{◌≡◌, ◌⊎◌, ℕ, ◌<◌, ◌≤◌, ◌^◌, false, List, [], length, take, drop, Some, None, IsSome}
use Rattle.std.specs.FinMap as finite
use Rattle.std.specs.FinSet as set
use Rattle.bk_record.specs.Key.{EntryKey}
use Rattle.bk_record.specs.Location.{Place}
use Rattle.bk_record.specs.Files.{Files, header_length}
use Rattle.bk_record.specs.Scan.{Payloads, Ledgers}
use Rattle.bk_record.specs.Keyed.{Places}
use Rattle.bk_record.specs.Longer.{IsLonger}
use Rattle.bk_log.specs.Growing.{HasNoBadLength}
use Rattle.bk_store.specs.Entries.{Bytes, HasEntry}
use Rattle.bk_store.specs.Representation.{Cached, IsStale}

-- ---- the device

-- What a crash leaves of a file: a prefix. The twelve bytes at 8 to 20 are arbitrary, since a patch
-- may have been writing them.
pub record IsCut (file left : List ℕ) : Type 0 where
  pub within : length left ≤ length file
  pub front : take 8 left ≡ take 8 (take (length left) file)
  pub behind : drop 20 left ≡ drop 20 (take (length left) file)

-- a file that a crash left of a log: a cut of its file or, if it has none, of a removed one
abbrev pub IsLeft : Files → Files → ℕ → List ℕ → Type 0
IsLeft files gone id left = ((file : List ℕ) × (finite.get files id ≡ Some file) × IsCut file left)
    ⊎ ((file : List ℕ) × (finite.get files id ≡ None) × (finite.get gone id ≡ Some file) × IsCut file left)

-- What a crash may leave. `kept` has the synced part of each log, and `gone` the removed files. A
-- log with a synced part remains and has that part after its header; any other log may remain or
-- not, a removed one too.
pub record MayLeave (files gone kept left : Files) : Type 0 where
  pub stands : (id : ℕ) (file : List ℕ) → finite.get kept id ≡ Some file → (now : List ℕ) × (finite.get left id ≡ Some now) × IsLonger file now
  pub each : (id : ℕ) (file : List ℕ) → finite.get left id ≡ Some file → IsLeft files gone id file

-- ---- facts of the store invariant

-- the published part of each log was synced
pub record AreSynced (kept : Files) (parts : Bytes) : Type 0 where
  pub each : (id : ℕ) → (parts id ≡ []) ⊎ ((file : List ℕ) × (finite.get kept id ≡ Some file) × IsLonger (parts id) file)

-- An entry of a live ledger, in a removed file too, has the payload of the map, or is stale.
pub record RemovedFilesAreHarmless (bytes : Bytes) (index : Places) (cached : Cached) (dead : Ledgers) (map : Payloads) : Type 0 where
  pub recorded : (place : Place) (key : EntryKey) (payload : List ℕ) → HasEntry bytes place key payload
      → set.contains dead key.ledger ≡ false → (finite.get map key ≡ Some payload) ⊎ IsStale index cached key place

-- ---- what an opening finds

-- each published entry is read again, and each entry that is read was in a file, or in a removed
-- one
pub record Survives (bytes gone parts read : Bytes) : Type 0 where
  pub kept : (place : Place) (key : EntryKey) (payload : List ℕ) → HasEntry parts place key payload → HasEntry read place key payload
  pub only : (place : Place) (key : EntryKey) (payload : List ℕ) → HasEntry read place key payload
      → HasEntry bytes place key payload ⊎ HasEntry gone place key payload

-- Deleted ledgers stay deleted. A number that is no ledger id has no entry, and need not stay so.
abbrev pub StayDead : Ledgers → Ledgers → Type 0
StayDead dead later = (ledger : ℕ) → ledger < 2 ^ 63 → set.contains later ledger ≡ false → set.contains dead ledger ≡ false

-- The result lies between what was published and what was accepted: it has each indexed pair of a
-- live ledger, and only pairs of the map.
pub record IsBetween (index : Places) (map : Payloads) (later : Ledgers) (found : Payloads) : Type 0 where
  pub published : (key : EntryKey) → IsSome (finite.get index key) → set.contains later key.ledger ≡ false
      → (payload : List ℕ) × (finite.get map key ≡ Some payload) × (finite.get found key ≡ Some payload)
  pub accepted : (key : EntryKey) (payload : List ℕ) → finite.get found key ≡ Some payload → finite.get map key ≡ Some payload

-- an opening judges the file and what is left of it alike: magic and version if there is a header,
-- and record lengths
pub record OpensAs (file left : List ℕ) : Type 0 where
  pub shorter : length left ≤ length file
  pub headed : header_length ≤ length left → take 8 left ≡ take 8 file
  pub spelled : HasNoBadLength file → HasNoBadLength left
