-- Errors in the bytes of a ledgers map, from left to right. Read `FirstFault` first; `MapAnswer`
-- (`Reading.antt`) uses it.
use Rattle.std.specs.Prelude.{◌≡◌, ◌≢◌, ℕ, ◌+◌, ◌*◌, ◌<◌, ◌^◌, pos, List, [], ◌∷◌, ◌++◌, length, take, drop}
use Rattle.std.specs.Int.{w32, to_be_bytes}
use Rattle.std.specs.List.{flat_map, AllByRecursion}
use Rattle.bk_record.specs.Record.{signed_field}
use Rattle.bk_record.specs.Piece.{BeginsWith}
use Rattle.bk_record.specs.Files.{In}
use Rattle.bk_head.specs.declared.fault.HeadFault.{HeadFault}
use Rattle.bk_head.specs.declared.fault.HeadFault.TheVariants.{Negative, NotAMap, MapLength, Repeated, Memory}
use Rattle.bk_head.specs.Ledgers.{batch_ids, pair_bytes, IsPair, Batches, ledgers_of, AreDistinct}

-- payload with the ids -1 and -2
abbrev pub IsForMap : List ℕ → Type 0
IsForMap payload = take 16 payload ≡ batch_ids

-- the bytes do not begin with a whole record of these ids
abbrev pub HasNoBatch : List ℕ → Type 0
HasNoBatch bytes = (payload : List ℕ) → BeginsWith bytes payload → IsForMap payload → ⊥

-- the length fits the count: 20 bytes, and 16 per pair
abbrev pub IsSized : List ℕ → Type 0
IsSized payload = (count : ℕ)
    × ((signed_field (drop 16 payload) ≡ pos count) × (length payload ≡ 20 + 16 * count))

-- the bytes begin with a batch of fitting length, whose pairs have the bytes `pairs`
pub record HasPairs (bytes pairs : List ℕ) : Type 0 where
  pub count : ℕ
  pub begins : BeginsWith bytes (batch_ids ++ to_be_bytes w32 count ++ pairs)
  pub sized : length pairs ≡ 16 * count

-- The bytes are `good` pairs, then `pair`, then later ones. No good pair is negative, and none
-- repeats a ledger of the good ones or of those before.
pub record ReachesPair (before : List (ℕ × ℕ)) (bytes : List ℕ) (good : List (ℕ × ℕ)) (pair : ℕ × ℕ)
    : Type 0 where
  pub later : List (ℕ × ℕ)
  pub bytes_are : bytes ≡ flat_map pair_bytes (good ++ pair ∷ later)
  pub numbers : AllByRecursion (λ p. (p.0 < 2 ^ 64) × (p.1 < 2 ^ 64)) (good ++ pair ∷ later)
  pub each : AllByRecursion IsPair good
  pub distinct : AreDistinct (ledgers_of (before ++ good))

-- error of the first wrong pair
abbrev pub PairFault : List (ℕ × ℕ) → List ℕ → HeadFault → Type 0
PairFault before bytes Negative = (good : List (ℕ × ℕ)) × ((pair : ℕ × ℕ)
    × (ReachesPair before bytes good pair × ¬ (IsPair pair)))
PairFault before bytes (Repeated ledger) = (good : List (ℕ × ℕ)) × ((size : ℕ)
    × (ReachesPair before bytes good (ledger, size)
    × (IsPair (ledger, size) × In ledger (ledgers_of (before ++ good)))))
PairFault before bytes fault = ⊥

-- error at a position, after batches with the pairs `before`
abbrev pub FaultAt : ℕ → List (ℕ × ℕ) → List ℕ → HeadFault → Type 0
FaultAt at before bytes (NotAMap place) = (place ≡ at) × ((bytes ≢ []) × HasNoBatch bytes)
FaultAt at before bytes (MapLength place) = (place ≡ at) × ((payload : List ℕ)
    × (BeginsWith bytes payload × (IsForMap payload × ¬ (IsSized payload))))
FaultAt at before bytes fault = (pairs : List ℕ) × (HasPairs bytes pairs × PairFault before pairs fault)

-- First error in the bytes of a map: correct batches, no ledger twice, then the error.
pub record FirstFault (from : ℕ) (bytes : List ℕ) (fault : HeadFault) : Type 0 where
  pub whole : List ℕ
  pub rest : List ℕ
  pub pairs : List (ℕ × ℕ)
  pub bytes_are : bytes ≡ whole ++ rest
  pub spelled : Batches whole pairs
  pub distinct : AreDistinct (ledgers_of pairs)
  pub stands : FaultAt (from + length whole) pairs rest fault

-- The bytes are good pairs, then one that can be added (not negative, its ledger new), then later
-- ones.
abbrev pub ReachesNew : List (ℕ × ℕ) → List ℕ → Type 0
ReachesNew before bytes = (good : List (ℕ × ℕ)) × ((pair : ℕ × ℕ)
    × (ReachesPair before bytes good pair × (IsPair pair × ¬ (In pair.0 (ledgers_of (before ++ good))))))

-- The only case of `Memory`: after correct batches without a repeated ledger, a batch of fitting
-- length has a pair that can be added. So `Memory` hides no error further left (project rule).
pub record AsksForMemory (bytes : List ℕ) : Type 0 where
  pub whole : List ℕ
  pub rest : List ℕ
  pub pairs : List (ℕ × ℕ)
  pub batch : List ℕ
  pub bytes_are : bytes ≡ whole ++ rest
  pub spelled : Batches whole pairs
  pub distinct : AreDistinct (ledgers_of pairs)
  pub has : HasPairs rest batch
  pub reaches : ReachesNew pairs batch

-- `M` if the error is `Memory`, else `P`
abbrev pub OrMemory : HeadFault → Type 0 → Type 0 → Type 0
OrMemory Memory M P = M
OrMemory fault M P = P
