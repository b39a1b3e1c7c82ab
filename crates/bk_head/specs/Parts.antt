-- Definitions for the contracts of the functions that `write_map` and `read_map` are made of.
use Rattle.std.specs.Prelude.{◌≡◌, ℕ, ◌+◌, ◌*◌, List, ◌++◌, length, take, IsSome}
use Rattle.std.specs.Int.{w32, to_be_bytes}
use Rattle.std.specs.List.{flat_map, AllByRecursion}
use Rattle.std.specs.FinMap as ledgers
use Rattle.bk_head.specs.declared.fault.HeadFault.{HeadFault}
use Rattle.bk_head.specs.declared.fault.HeadFault.TheVariants.{Negative, Repeated}
use Rattle.bk_record.specs.Piece.{BeginsWith}
use Rattle.bk_head.specs.Faults.{IsForMap}
use Rattle.bk_head.specs.Ledgers.{LedgersMap, batch_ids, pair_bytes, IsPair, ledgers_of, AreDistinct}

-- bytes of a batch before its pairs: length field, ids and number of pairs
unfoldable pub batch_head : ℕ → List ℕ
batch_head count = to_be_bytes w32 (20 + 16 * count) ++ (batch_ids ++ to_be_bytes w32 count)

-- The bytes are pairs that are not negative. With the pairs before they make the map, no ledger
-- twice.
pub record AddsPairs (before : List (ℕ × ℕ)) (bytes : List ℕ) (map : LedgersMap) : Type 0 where
  pub good : List (ℕ × ℕ)
  pub bytes_are : bytes ≡ flat_map pair_bytes good
  pub each : AllByRecursion IsPair good
  pub distinct : AreDistinct (ledgers_of (before ++ good))
  pub map_is : map ≡ ledgers.from_entries (before ++ good)

-- why a pair cannot be added to a map
abbrev pub PairRefusal : LedgersMap → ℕ × ℕ → HeadFault → Type 0
PairRefusal map pair Negative = ¬ (IsPair pair)
PairRefusal map pair (Repeated ledger) = (ledger ≡ pair.0) × (IsPair pair × IsSome (ledgers.get map pair.0))
PairRefusal map pair fault = ⊥

-- `head` are the first 24 of the bytes, or all if fewer, and `left` is their number
abbrev pub IsFrontOf : List ℕ → ℕ → List ℕ → Type 0
IsFrontOf head left bytes = (left ≡ length bytes) × (head ≡ take 24 bytes)

-- the bytes begin with a record of the ids -1 and -2 whose payload has this length
pub record IsSizedBatch (size : ℕ) (bytes : List ℕ) : Type 0 where
  pub payload : List ℕ
  pub begins : BeginsWith bytes payload
  pub for_map : IsForMap payload
  pub size_is : length payload ≡ size
