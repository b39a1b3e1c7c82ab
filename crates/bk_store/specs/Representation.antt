-- The representation relation: files, index, write caches and deleted ledgers represent a map from
-- keys to payloads. Read `Represents` first.
use Rattle.std.specs.Prelude.{◌≡◌, ◌⊎◌, false, List, Option, Some, None, IsSome}
use Rattle.std.specs.FinMap as finite
use Rattle.std.specs.FinSet as set
use Rattle.std.specs.Prelude.{ℕ}
use Rattle.bk_record.specs.Key.{EntryKey}
use Rattle.bk_record.specs.Location.{Place, Precedes}
use Rattle.bk_record.specs.Scan.{Payloads, Ledgers}
use Rattle.bk_record.specs.Keyed.{Places}
use Rattle.bk_store.specs.Entries.{Bytes, HasEntry}

-- what the write caches have of each key
abbrev pub Cached : Type 0
Cached = EntryKey → Option (List ℕ)

-- An entry at the place is stale: no write cache has its key, and the index points the key to a
-- later place.
pub record IsStale (index : Places) (cached : Cached) (key : EntryKey) (place : Place) : Type 0 where
  pub uncached : cached key ≡ None
  pub behind : Place
  pub sent : finite.get index key ≡ Some behind
  pub later : Precedes place behind

-- the key has an entry at the place, with the payload of the map
pub record IsIndexed (bytes : Bytes) (map : Payloads) (key : EntryKey) (place : Place) : Type 0 where
  pub payload : List ℕ
  pub stands : HasEntry bytes place key payload
  pub mapped : finite.get map key ≡ Some payload

-- Files, index, write caches and deleted ledgers represent the map: its keys are of live ledgers;
-- cached payloads are those of the map; a key of the map is cached or indexed; an indexed key is at
-- its place, with the payload of the map; and each entry of a live ledger, in any file, has the
-- payload of the map or is stale.
pub record Represents (bytes : Bytes) (index : Places) (cached : Cached) (dead : Ledgers) (map : Payloads) : Type 0 where
  pub lives : (key : EntryKey) (payload : List ℕ) → finite.get map key ≡ Some payload → set.contains dead key.ledger ≡ false
  pub cached_is : (key : EntryKey) (payload : List ℕ) → cached key ≡ Some payload → finite.get map key ≡ Some payload
  pub covered : (key : EntryKey) (payload : List ℕ) → finite.get map key ≡ Some payload → cached key ≡ None → IsSome (finite.get index key)
  pub indexed : (key : EntryKey) (place : Place) → finite.get index key ≡ Some place → IsIndexed bytes map key place
  pub recorded : (place : Place) (key : EntryKey) (payload : List ℕ) → HasEntry bytes place key payload → set.contains dead key.ledger ≡ false
      → (finite.get map key ≡ Some payload) ⊎ IsStale index cached key place
