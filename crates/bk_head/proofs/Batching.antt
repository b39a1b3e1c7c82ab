-- Batches read one after another, up to the first error.
use Rattle.std.proofs.Common.{◌≡◌, ◌≢◌, ℕ, ◌+◌, ◌*◌, ◌≤◌, List, [], ◌++◌, length, take, drop, refl, sym, ap, subst, ◌∙◌, append_assoc, arith}
use Rattle.std.specs.Int.{w32, to_be_bytes}
use Rattle.std.specs.List.{flat_map}
use Rattle.std.specs.FinMap as ledgers
use Rattle.std.proofs.lemmas.List.{length-append, length-take, length-drop, take-append-drop, take_at, append-nil}
use Rattle.bk_record.specs.Record.{record_of, IsPayload}
use Rattle.bk_record.proofs.Records.{length-record_of}
use Rattle.bk_head.specs.declared.fault.HeadFault.{HeadFault}
use Rattle.bk_head.specs.declared.fault.HeadFault.TheVariants.{BadMagic, Version, Negative, NotAMap, MapLength, Repeated, CountDiffers, Memory}
use Rattle.bk_head.specs.Ledgers.{LedgersMap, batch_ids, pair_bytes, batch_payload, batch_of, IsBatch, Batches, SpellsMap}
use Rattle.bk_head.specs.Faults.{HasPairs, PairFault, FaultAt, FirstFault, ReachesNew, AsksForMemory, OrMemory}
use Rattle.bk_head.specs.Parts.{AddsPairs}
use Rattle.bk_head.proofs.BatchBytes.{length-batch_ids}
use Rattle.bk_head.proofs.Pairs.{length-pairs}
use Rattle.bk_head.proofs.Adding.{take-more}

-- no bytes parse as the empty map
pub spells_nothing : (m : LedgersMap) → m ≡ ledgers.empty → SpellsMap [] m
spells_nothing m is = record { pairs = []; spelled = Batches.none; distinct = tt; map_is = is }

pub batches_at : (b c : List ℕ) (p q : List (ℕ × ℕ)) → b ≡ c → p ≡ q → Batches b p → Batches c q
batches_at b c p q same-bytes same-pairs is = subst (λ (x : List ℕ). Batches x q) same-bytes (subst (λ (x : List (ℕ × ℕ)). Batches b x) same-pairs is)

-- one more batch after batches
pub batches_more : (bytes : List ℕ) (pairs others : List (ℕ × ℕ)) → Batches bytes pairs → IsBatch others
    → Batches (bytes ++ batch_of others) (pairs ++ others)
batches_more _ _ others Batches.none is =
    batches_at (batch_of others ++ []) (batch_of others) (others ++ []) others (append-nil (batch_of others)) (append-nil others)
    (Batches.more is Batches.none)
batches_more _ _ others (Batches.more {pairs = ps} {others = qs} {behind = rest} first b) is =
    batches_at _ _ _ _ (sym (append_assoc (batch_of ps) rest (batch_of others))) (sym (append_assoc ps qs others))
    (Batches.more first (batches_more rest qs others b is))

-- ---- one batch that was read

-- the number of pairs is the count
many : (count : ℕ) (bytes : List ℕ) (good : List (ℕ × ℕ)) → length bytes ≡ 16 * count → bytes ≡ flat_map pair_bytes good → length good ≡ count
many count bytes good sized is = omega (arith, ap length is, length-pairs good)

payload_of : (tail bytes : List ℕ) (h : HasPairs tail bytes) (good : List (ℕ × ℕ)) → bytes ≡ flat_map pair_bytes good
    → batch_ids ++ to_be_bytes w32 h.count ++ bytes ≡ batch_payload good
unfolding batch_payload
payload_of tail bytes h good is =
    ap (λ (n : ℕ). batch_ids ++ to_be_bytes w32 n ++ bytes) (sym (many h.count bytes good h.sized is))
    ∙ ap (λ (x : List ℕ). batch_ids ++ to_be_bytes w32 (length good) ++ x) is

pub length-payload : (count : ℕ) (bytes : List ℕ) → length (batch_ids ++ to_be_bytes w32 count ++ bytes) ≡ 20 + length bytes
length-payload count bytes = omega (
  arith,
  length-append (batch_ids ++ to_be_bytes w32 count) bytes,
  length-append batch_ids
      (to_be_bytes w32 count),
  length-batch_ids,
)

-- a batch is its head, then its pairs
pub has-front : (tail bytes : List ℕ) (h : HasPairs tail bytes)
    → (take (24 + length bytes) tail ≡ record_of (batch_ids ++ to_be_bytes w32 h.count ++ bytes)) × (24 + length bytes ≤ length tail)
has-front tail bytes h =
    let payload = batch_ids ++ to_be_bytes w32 h.count ++ bytes in
    let long : length (record_of payload) ≡ 24 + length bytes = omega (arith, length-record_of payload, length-payload h.count bytes) in (
      ap (take (24 + length bytes)) h.begins.is ∙ take_at (record_of payload) h.begins.behind (24 + length bytes) long,
      omega (arith, ap length h.begins.is, length-append (record_of payload) h.begins.behind, long),
    )

pub spells_more : (tail bytes : List ℕ) (at : ℕ) (m n : LedgersMap) → at ≤ length tail → (s : SpellsMap (take at tail) m)
    → HasPairs (drop at tail) bytes → AddsPairs s.pairs bytes n
    → SpellsMap (take (at + (24 + length bytes)) tail) n
spells_more tail bytes at m n within s h a =
    let front = has-front (drop at tail) bytes h in
    let payload-is = payload_of (drop at tail) bytes h a.good a.bytes_are in
    let whole : take (at + (24 + length bytes)) tail ≡ take at tail ++ batch_of a.good =
    take-more at (24 + length bytes) tail (omega (arith, front.1, length-drop at tail))
    ∙ ap (λ (x : List ℕ). take at tail ++ x) (front.0 ∙ ap record_of payload-is) in
    record {
      pairs = s.pairs ++ a.good;
      spelled = batches_at _ _ _ _ (sym whole) refl
          (batches_more (take at tail) s.pairs a.good s.spelled (record { fits = subst IsPayload payload-is h.begins.legal; each = a.each }));
      distinct = a.distinct;
      map_is = a.map_is;
    }

-- ---- the first error

pub or_fault : (fault : HeadFault) (M P : Type 0) → fault ≢ Memory → P → OrMemory fault M P
or_fault Memory M P other p = absurd (other refl)
or_fault BadMagic M P other p = p
or_fault (Version version) M P other p = p
or_fault Negative M P other p = p
or_fault (NotAMap at) M P other p = p
or_fault (MapLength at) M P other p = p
or_fault (Repeated ledger) M P other p = p
or_fault (CountDiffers found) M P other p = p

-- an error in the bytes is not `Memory`
pub stands_without_memory : (at : ℕ) (before : List (ℕ × ℕ)) (bytes : List ℕ) (fault : HeadFault) → FaultAt at before bytes fault → fault ≢ Memory
stands_without_memory at before bytes fault stands is = (subst (FaultAt at before bytes) is stands).1.1

pub stops : (offset at : ℕ) (tail : List ℕ) (m : LedgersMap) (fault : HeadFault) → at ≤ length tail → (s : SpellsMap (take at tail) m)
    → FaultAt (offset + at) s.pairs (drop at tail) fault → FirstFault offset tail fault
stops offset at tail m fault within s stands =
    let long : at ≡ length (take at tail) = omega (arith, length-take at tail) in
    record {
      whole = take at tail;
      rest = drop at tail;
      pairs = s.pairs;
      bytes_are = sym (take-append-drop at tail);
      spelled = s.spelled;
      distinct = s.distinct;
      stands = subst (λ (n : ℕ). FaultAt (offset + n) s.pairs (drop at tail) fault) long stands;
    }

pub asks : (at : ℕ) (tail bytes : List ℕ) (m : LedgersMap) → (s : SpellsMap (take at tail) m) → HasPairs (drop at tail) bytes
    → ReachesNew s.pairs bytes → AsksForMemory tail
asks at tail bytes m s has reaches = record {
  whole = take at tail;
  rest = drop at tail;
  pairs = s.pairs;
  batch = bytes;
  bytes_are = sym (take-append-drop at tail);
  spelled = s.spelled;
  distinct = s.distinct;
  has = has;
  reaches = reaches;
}

pub or_memory-map : (fault : HeadFault) (M N P Q : Type 0) → (M → N) → (P → Q) → OrMemory fault M P → OrMemory fault N Q
or_memory-map Memory M N P Q g f p = g p
or_memory-map BadMagic M N P Q g f p = f p
or_memory-map (Version version) M N P Q g f p = f p
or_memory-map Negative M N P Q g f p = f p
or_memory-map (NotAMap at) M N P Q g f p = f p
or_memory-map (MapLength at) M N P Q g f p = f p
or_memory-map (Repeated ledger) M N P Q g f p = f p
or_memory-map (CountDiffers found) M N P Q g f p = f p

-- the error of a pair is the error of its batch
pair_stops : (at : ℕ) (before : List (ℕ × ℕ)) (tail bytes : List ℕ) (fault : HeadFault) → HasPairs tail bytes
    → OrMemory fault (ReachesNew before bytes) (PairFault before bytes fault) → OrMemory fault (ReachesNew before bytes) (FaultAt at before tail fault)
pair_stops at before tail bytes Memory has h = h
pair_stops at before tail bytes Negative has h = (bytes, (has, h))
pair_stops at before tail bytes (Repeated ledger) has h = (bytes, (has, h))
pair_stops at before tail bytes BadMagic has h = absurd h
pair_stops at before tail bytes (Version version) has h = absurd h
pair_stops at before tail bytes (NotAMap place) has h = absurd h
pair_stops at before tail bytes (MapLength place) has h = absurd h
pair_stops at before tail bytes (CountDiffers found) has h = absurd h

pub stops_at_pair : (offset at : ℕ) (tail bytes : List ℕ) (m : LedgersMap) (fault : HeadFault) → at ≤ length tail → (s : SpellsMap (take at tail) m)
    → HasPairs (drop at tail) bytes → OrMemory fault (ReachesNew s.pairs bytes) (PairFault s.pairs bytes fault)
    → OrMemory fault (AsksForMemory tail) (FirstFault offset tail fault)
stops_at_pair offset at tail bytes m fault within s has h =
    or_memory-map fault (ReachesNew s.pairs bytes) (AsksForMemory tail) (FaultAt (offset + at) s.pairs (drop at tail) fault) (FirstFault offset tail fault)
    (asks at tail bytes m s has) (stops offset at tail m fault within s) (pair_stops (offset + at) s.pairs (drop at tail) bytes fault has h)
