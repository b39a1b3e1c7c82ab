-- The written form of a ledgers map.
use Rattle.std.specs.Prelude.{◌≡◌, ℕ, zero, suc, ◌<◌, ◌≤◌, ◌^◌, List, [], ◌∷◌, ◌++◌, length, take, drop, Some}
use Rattle.std.specs.List.{flat_map}
use Rattle.std.specs.FinMap as ledgers
use Rattle.bk_head.specs.Ledgers.{LedgersMap, batch_of, IsPair}

-- greatest number of pairs of a written batch (project rule)
abbrev pub batch_pairs : ℕ
batch_pairs = 10000

-- pairs in batches of that size, the last with the rest; the number bounds how many are cut
abbrev pub batches_in : ℕ → List (ℕ × ℕ) → List (List (ℕ × ℕ))
batches_in zero pairs = []
batches_in (suc most) [] = []
batches_in (suc most) (pair ∷ pairs) =
    take batch_pairs (pair ∷ pairs) ∷ batches_in most (drop batch_pairs (pair ∷ pairs))

-- batches of these pairs, one after another
unfoldable pub written_pairs : List (ℕ × ℕ) → List ℕ
written_pairs pairs = flat_map batch_of (batches_in (length pairs) pairs)

-- written form of a map: pairs by rising ledger, no bytes for an empty map
abbrev pub written_map : LedgersMap → List ℕ
written_map map = written_pairs (ledgers.entries map)

-- the same as a relation: full batches, then one that is neither empty nor more than full
pub data AreWritten : List (ℕ × ℕ) → List ℕ → Type 0 where
  none : AreWritten [] []
  last : (pairs : List (ℕ × ℕ)) → 1 ≤ length pairs → length pairs ≤ batch_pairs
      → AreWritten pairs (batch_of pairs)
  full : (pairs : List (ℕ × ℕ)) {others : List (ℕ × ℕ)} {behind : List ℕ}
      → length pairs ≡ batch_pairs → 1 ≤ length others → AreWritten others behind
      → AreWritten (pairs ++ others) (batch_of pairs ++ behind)

-- A map that can be written: at most 2^31 - 1 ledgers, since the header counts them, and no number
-- above 2^63 - 1.
pub record IsWritable (map : LedgersMap) : Type 0 where
  pub few : ledgers.len map < 2 ^ 31
  pub each : (ledger size : ℕ) → ledgers.get map ledger ≡ Some size → IsPair (ledger, size)
