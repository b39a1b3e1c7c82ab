-- The ledgers map of a sealed log: for each ledger the sum of its records' sizes in bytes, in
-- batches, each of them a record. Read `SpellsMap` first.
use Rattle.std.specs.Prelude.{◌≡◌, ℕ, ◌<◌, ◌^◌, negsuc, List, [], ◌∷◌, ◌++◌, map, length}
use Rattle.std.specs.Int.{w32, w64, to_be_bytes, cast_unsigned}
use Rattle.std.specs.List.{flat_map, AllByRecursion}
use Rattle.std.specs.Ordering.{nat_cmp}
use Rattle.std.specs.BTreeMap.{BTreeMap}
use Rattle.std.specs.FinMap as ledgers
use Rattle.bk_record.specs.Record.{record_of, IsPayload}
use Rattle.bk_record.specs.Files.{In}

-- finite map from ledgers to sizes in bytes
abbrev pub LedgersMap : Type 0
LedgersMap = ledgers.FinMap nat_cmp ℕ

-- finite map of a `BTreeMap`
abbrev pub map_of : BTreeMap ℕ ℕ → LedgersMap
map_of tree = ledgers.from_entries tree.entries

-- ids of a batch's record: ledger id -1 and entry id -2 (BookKeeper entry log format)
unfoldable pub batch_ids : List ℕ
batch_ids = to_be_bytes w64 (cast_unsigned w64 (negsuc 0)) ++ to_be_bytes w64 (cast_unsigned w64 (negsuc 1))

-- bytes of a pair: ledger and size, eight bytes each
unfoldable pub pair_bytes : ℕ × ℕ → List ℕ
pair_bytes pair = to_be_bytes w64 pair.0 ++ to_be_bytes w64 pair.1

-- payload of a batch: ids, number of pairs in four bytes, pairs (BookKeeper entry log format)
unfoldable pub batch_payload : List (ℕ × ℕ) → List ℕ
batch_payload pairs = batch_ids ++ to_be_bytes w32 (length pairs) ++ flat_map pair_bytes pairs

-- A batch is the record of that payload, so its length field does not count its own four bytes
-- (project rule).
abbrev pub batch_of : List (ℕ × ℕ) → List ℕ
batch_of pairs = record_of (batch_payload pairs)

-- neither number of the pair is negative as a signed number
abbrev pub IsPair : ℕ × ℕ → Type 0
IsPair pair = (pair.0 < 2 ^ 63) × (pair.1 < 2 ^ 63)

-- pairs of one batch: they fit in a record, and none is negative
pub record IsBatch (pairs : List (ℕ × ℕ)) : Type 0 where
  pub fits : IsPayload (batch_payload pairs)
  pub each : AllByRecursion IsPair pairs

-- the bytes are batches and nothing else, with these pairs in order
pub data Batches : List ℕ → List (ℕ × ℕ) → Type 0 where
  none : Batches [] []
  more : {pairs others : List (ℕ × ℕ)} {behind : List ℕ} → IsBatch pairs → Batches behind others
      → Batches (batch_of pairs ++ behind) (pairs ++ others)

-- ledgers of the pairs, in order
abbrev pub ledgers_of : List (ℕ × ℕ) → List ℕ
ledgers_of pairs = map (λ pair. pair.0) pairs

-- no element is repeated
abbrev pub AreDistinct : List ℕ → Type 0
AreDistinct [] = Unit {0}
AreDistinct (x ∷ xs) = ¬ (In x xs) × AreDistinct xs

-- The bytes parse as the map: the pairs of their batches are the map's, in any order, each ledger
-- once.
pub record SpellsMap (bytes : List ℕ) (map : LedgersMap) : Type 0 where
  pub pairs : List (ℕ × ℕ)
  pub spelled : Batches bytes pairs
  pub distinct : AreDistinct (ledgers_of pairs)
  pub map_is : map ≡ ledgers.from_entries pairs
