-- At each place of a map's bytes there is at most one error, and then no correct batch.
use Rattle.std.proofs.Common.{◌≡◌, ◌≢◌, ℕ, ◌*◌, ◌^◌, ◌<◌, List, [], ◌∷◌, ◌++◌, length, take, drop, refl, sym, ap, subst, ◌∙◌, append_assoc, arith, inl, inr}
use Rattle.std.specs.Prelude.{◌⊎◌}
use Rattle.std.specs.Int.{w32, to_be_bytes, from_be_bytes, cast_signed}
use Rattle.std.specs.List.{flat_map, AllByRecursion}
use Rattle.std.proofs.lemmas.Int.{to_z_pos}
use Rattle.std.proofs.lemmas.List.{length-append, take_at, drop_at}
use Rattle.bk_record.specs.Record.{signed_field}
use Rattle.bk_record.specs.Files.{In}
use Rattle.bk_head.specs.declared.fault.HeadFault.{HeadFault}
use Rattle.bk_head.specs.declared.fault.HeadFault.TheVariants.{BadMagic, Version, Negative, NotAMap, MapLength, Repeated, CountDiffers, Memory}
use Rattle.bk_head.specs.Ledgers.{batch_ids, pair_bytes, batch_payload, batch_of, IsPair, IsBatch, ledgers_of, AreDistinct}
use Rattle.bk_record.specs.Piece.{BeginsWith}
use Rattle.bk_head.specs.Faults.{IsForMap, IsSized, HasPairs, ReachesPair, PairFault, FaultAt}
use Rattle.bk_head.proofs.Distinct.{AreDistinct-apart, ledgers_of-append}
use Rattle.bk_head.proofs.Pairs.{length-pairs, same_pairs}
use Rattle.bk_head.proofs.Adding.{numbers_of}
use Rattle.bk_head.proofs.Bytes.{again_4}
use Rattle.bk_head.proofs.RecordBytes.{Begins-long}
use Rattle.bk_head.proofs.BatchBytes.{length-batch_ids, same_payload}
use Rattle.bk_head.proofs.Batching.{length-payload}

-- ---- one pair

-- two positions in a list: equal, or one before the other
splits : (a : List (ℕ × ℕ)) (p : ℕ × ℕ) (x : List (ℕ × ℕ)) (b : List (ℕ × ℕ)) (q : ℕ × ℕ) (y : List (ℕ × ℕ)) → a ++ p ∷ x ≡ b ++ q ∷ y
    → ((a ≡ b) × (p ≡ q)) ⊎ (((t : List (ℕ × ℕ)) × (b ≡ a ++ p ∷ t)) ⊎ ((t : List (ℕ × ℕ)) × (a ≡ b ++ q ∷ t)))
splits [] p x [] q y e = let same : p ∷ x ≡ q ∷ y = e in inl (refl, cc)
splits [] p x (c ∷ b) q y e =
    let same : p ∷ x ≡ c ∷ (b ++ q ∷ y) = e in
    let head : c ≡ p = cc in
    inr (inl (b, ap (λ (z : ℕ × ℕ). z ∷ b) head))
splits (d ∷ a) p x [] q y e =
    let same : d ∷ (a ++ p ∷ x) ≡ q ∷ y = e in
    let head : d ≡ q = cc in
    inr (inr (a, ap (λ (z : ℕ × ℕ). z ∷ a) head))
splits (d ∷ a) p x (c ∷ b) q y e =
    let same : d ∷ (a ++ p ∷ x) ≡ c ∷ (b ++ q ∷ y) = e in
    let head : d ≡ c = cc in
    let tail : a ++ p ∷ x ≡ b ++ q ∷ y = cc in
    elim (splits a p x b q y tail) [
      | inl h ↦ inl ((λ i. head i ∷ h.0 i), h.1)
      | inr o ↦ elim o [
        | inl h ↦ inr (inl (h.0, λ i. sym head i ∷ h.1 i))
        | inr h ↦ inr (inr (h.0, λ i. head i ∷ h.1 i))
      ]
    ]

-- the pair cannot be added after the good ones
abbrev pub IsWrong : List (ℕ × ℕ) → List (ℕ × ℕ) → ℕ × ℕ → Type 0
IsWrong before good p = ¬ (IsPair p) ⊎ In p.0 (ledgers_of (before ++ good))

each_at : (P : ℕ × ℕ → Type 0) (a : List (ℕ × ℕ)) (p : ℕ × ℕ) (x : List (ℕ × ℕ)) → AllByRecursion P (a ++ p ∷ x) → P p
each_at P [] p x h = h.0
each_at P (q ∷ a) p x h = each_at P a p x h.1

-- a pair that cannot be added is not among good ones
no_good : (before a : List (ℕ × ℕ)) (p : ℕ × ℕ) (x : List (ℕ × ℕ)) → IsWrong before a p → AllByRecursion IsPair (a ++ p ∷ x)
    → AreDistinct (ledgers_of (before ++ (a ++ p ∷ x))) → ⊥
no_good before a p x (inl n) each distinct = n (each_at IsPair a p x each)
no_good before a p x (inr h) each distinct =
    AreDistinct-apart (ledgers_of (before ++ a)) p.0 (ledgers_of x)
    (subst AreDistinct (ap ledgers_of (sym (append_assoc before a (p ∷ x))) ∙ ledgers_of-append (before ++ a) (p ∷ x)) distinct) h

-- there is one first pair that cannot be added
same_pair : (before : List (ℕ × ℕ)) (bytes : List ℕ) (a b : List (ℕ × ℕ)) (p q : ℕ × ℕ) → ReachesPair before bytes a p → ReachesPair before bytes b q
    → IsWrong before a p → IsWrong before b q → (a ≡ b) × (p ≡ q)
same_pair before bytes a b p q r s wrong-p wrong-q =
    let all : a ++ p ∷ r.later ≡ b ++ q ∷ s.later = same_pairs _ _ r.numbers s.numbers (sym r.bytes_are ∙ s.bytes_are) in
    elim (splits a p r.later b q s.later all) [
      | inl h ↦ h
      | inr o ↦ elim o [
        | inl h ↦ absurd (no_good before a p h.0 wrong-p (subst (λ (x : List (ℕ × ℕ)). AllByRecursion IsPair x) h.1 s.each)
            (subst (λ (x : List (ℕ × ℕ)). AreDistinct (ledgers_of (before ++ x))) h.1 s.distinct))
        | inr h ↦ absurd (no_good before b q h.0 wrong-q (subst (λ (x : List (ℕ × ℕ)). AllByRecursion IsPair x) h.1 r.each)
            (subst (λ (x : List (ℕ × ℕ)). AreDistinct (ledgers_of (before ++ x))) h.1 r.distinct))
      ]
    ]

-- the error of a pair, by its cause
abbrev IsOf : List (ℕ × ℕ) → List (ℕ × ℕ) → ℕ × ℕ → HeadFault → Type 0
IsOf before good p fault = ((fault ≡ Negative) × ¬ (IsPair p)) ⊎ ((fault ≡ Repeated p.0) × (IsPair p × In p.0 (ledgers_of (before ++ good))))

wrong : (before good : List (ℕ × ℕ)) (p : ℕ × ℕ) (fault : HeadFault) → IsOf before good p fault → IsWrong before good p
wrong before good p fault (inl h) = inl h.1
wrong before good p fault (inr h) = inr h.1.1

record FirstWrong (before : List (ℕ × ℕ)) (bytes : List ℕ) (fault : HeadFault) : Type 0 where
  good : List (ℕ × ℕ)
  pair : ℕ × ℕ
  reaches : ReachesPair before bytes good pair
  is_of : IsOf before good pair fault

first_wrong : (before : List (ℕ × ℕ)) (bytes : List ℕ) (fault : HeadFault) → PairFault before bytes fault → FirstWrong before bytes fault
first_wrong before bytes Negative h = record { good = h.0; pair = h.1.0; reaches = h.1.1.0; is_of = inl (refl, h.1.1.1) }
first_wrong before bytes (Repeated ledger) h = record { good = h.0; pair = (ledger, h.1.0); reaches = h.1.1.0; is_of = inr (refl, h.1.1.1) }
first_wrong before bytes BadMagic h = absurd h
first_wrong before bytes (Version version) h = absurd h
first_wrong before bytes (NotAMap place) h = absurd h
first_wrong before bytes (MapLength place) h = absurd h
first_wrong before bytes (CountDiffers found) h = absurd h
first_wrong before bytes Memory h = absurd h

told : (before a b : List (ℕ × ℕ)) (p q : ℕ × ℕ) (f g : HeadFault) → p ≡ q → IsOf before a p f → IsOf before b q g → f ≡ g
told before a b p q f g same (inl h) (inl k) = h.0 ∙ sym k.0
told before a b p q f g same (inr h) (inr k) = h.0 ∙ ap (λ (z : ℕ × ℕ). Repeated z.0) same ∙ sym k.0
told before a b p q f g same (inl h) (inr k) = absurd (h.1 (subst IsPair (sym same) k.1.0))
told before a b p q f g same (inr h) (inl k) = absurd (k.1 (subst IsPair same h.1.0))

pub same_pair_fault : (before : List (ℕ × ℕ)) (bytes : List ℕ) (f g : HeadFault) → PairFault before bytes f → PairFault before bytes g → f ≡ g
same_pair_fault before bytes f g h k =
    let x = first_wrong before bytes f h in
    let y = first_wrong before bytes g k in
    let same = same_pair before bytes x.good y.good x.pair y.pair x.reaches y.reaches (wrong before x.good x.pair f x.is_of)
    (wrong before y.good y.pair g y.is_of) in
    told before x.good y.good x.pair y.pair f g same.1 x.is_of y.is_of

-- ---- one batch

-- payload of a batch of fitting length
for_map_is : (count : ℕ) (bytes : List ℕ) → IsForMap (batch_ids ++ to_be_bytes w32 count ++ bytes)
for_map_is count bytes = ap (take 16) (append_assoc batch_ids (to_be_bytes w32 count) bytes)
    ∙ take_at batch_ids (to_be_bytes w32 count ++ bytes) 16 length-batch_ids

sized_is : (count : ℕ) (bytes : List ℕ) → count < 2 ^ 31 → length bytes ≡ 16 * count → IsSized (batch_ids ++ to_be_bytes w32 count ++ bytes)
unfolding signed_field
sized_is count bytes small long =
    let behind : drop 16 (batch_ids ++ to_be_bytes w32 count ++ bytes) ≡ to_be_bytes w32 count ++ bytes =
    ap (drop 16) (append_assoc batch_ids (to_be_bytes w32 count) bytes) ∙ drop_at batch_ids (to_be_bytes w32 count ++ bytes) 16 length-batch_ids in (
      count,
      (
        ap (λ (x : List ℕ). cast_signed w32 (from_be_bytes w32 x)) behind ∙ ap (cast_signed w32) (again_4 count bytes (omega arith))
            ∙ to_z_pos w32 count small,
        omega (arith, length-payload count bytes, long),
      ),
    )

small_count : (tail bytes : List ℕ) (h : HasPairs tail bytes) → h.count < 2 ^ 31
small_count tail bytes h = omega (arith, h.begins.legal.1, h.sized, length-payload h.count bytes)

-- a batch has one count, so its pairs have one list of bytes
pub same_bytes : (tail a b : List ℕ) → HasPairs tail a → HasPairs tail b → a ≡ b
same_bytes tail a b h k =
    let same : batch_ids ++ to_be_bytes w32 h.count ++ a ≡ batch_ids ++ to_be_bytes w32 k.count ++ b = same_payload tail _ _ h.begins k.begins in
    let twenty : (n : ℕ) (x : List ℕ) → drop 20 (batch_ids ++ to_be_bytes w32 n ++ x) ≡ x =
    λ n x. drop_at (batch_ids ++ to_be_bytes w32 n) x 20 (omega (arith, length-append batch_ids (to_be_bytes w32 n), length-batch_ids)) in
    sym (twenty h.count a) ∙ ap (drop 20) same ∙ twenty k.count b

-- the error at a position, by its cause
data IsKind (at : ℕ) (before : List (ℕ × ℕ)) (bytes : List ℕ) (fault : HeadFault) : Type 0 where
  foreign : fault ≡ NotAMap at → bytes ≢ [] → ((payload : List ℕ) → BeginsWith bytes payload → IsForMap payload → ⊥) → IsKind at before bytes fault
  unsized : fault ≡ MapLength at → (payload : List ℕ) → BeginsWith bytes payload → IsForMap payload → ¬ (IsSized payload) → IsKind at before bytes fault
  of_pair : (pairs : List ℕ) → HasPairs bytes pairs → PairFault before pairs fault → IsKind at before bytes fault

kind_of : (at : ℕ) (before : List (ℕ × ℕ)) (bytes : List ℕ) (fault : HeadFault) → FaultAt at before bytes fault → IsKind at before bytes fault
kind_of at before bytes (NotAMap place) h = IsKind.foreign (ap (λ n. NotAMap n) h.0) h.1.0 h.1.1
kind_of at before bytes (MapLength place) h = IsKind.unsized (ap (λ n. MapLength n) h.0) h.1.0 h.1.1.0 h.1.1.1.0 h.1.1.1.1
kind_of at before bytes Negative h = IsKind.of_pair h.0 h.1.0 h.1.1
kind_of at before bytes (Repeated ledger) h = IsKind.of_pair h.0 h.1.0 h.1.1
kind_of at before bytes BadMagic h = absurd h.1.1
kind_of at before bytes (Version version) h = absurd h.1.1
kind_of at before bytes (CountDiffers found) h = absurd h.1.1
kind_of at before bytes Memory h = absurd h.1.1

pub same_fault : (at : ℕ) (before : List (ℕ × ℕ)) (bytes : List ℕ) (f g : HeadFault) → FaultAt at before bytes f → FaultAt at before bytes g → f ≡ g
same_fault at before bytes f g h k = by_kind (kind_of at before bytes f h) (kind_of at before bytes g k)
  where
    by_kind : IsKind at before bytes f → IsKind at before bytes g → f ≡ g
    by_kind (IsKind.foreign e some none) (IsKind.foreign e' some' none') = e ∙ sym e'
    by_kind (IsKind.foreign e some none) (IsKind.unsized e' payload s is n) = absurd (none payload s is)
    by_kind (IsKind.foreign e some none) (IsKind.of_pair pairs has p) = absurd (none _ has.begins (for_map_is has.count pairs))
    by_kind (IsKind.unsized e payload s is n) (IsKind.foreign e' some' none') = absurd (none' payload s is)
    by_kind (IsKind.unsized e payload s is n) (IsKind.unsized e' payload' s' is' n') = e ∙ sym e'
    by_kind (IsKind.unsized e payload s is n) (IsKind.of_pair pairs has p) =
        absurd (n (subst IsSized (same_payload bytes _ payload has.begins s) (sized_is has.count pairs (small_count bytes pairs has) has.sized)))
    by_kind (IsKind.of_pair pairs has p) (IsKind.foreign e' some' none') = absurd (none' _ has.begins (for_map_is has.count pairs))
    by_kind (IsKind.of_pair pairs has p) (IsKind.unsized e' payload s is n) =
        absurd (n (subst IsSized (same_payload bytes _ payload has.begins s) (sized_is has.count pairs (small_count bytes pairs has) has.sized)))
    by_kind (IsKind.of_pair pairs has p) (IsKind.of_pair others has' q) =
        same_pair_fault before pairs f g p (subst (λ (x : List ℕ). PairFault before x g) (same_bytes bytes others pairs has' has) q)

-- ---- a good batch

pub has_pairs_of : (bytes : List ℕ) (pairs : List (ℕ × ℕ)) (behind : List ℕ) → IsBatch pairs → bytes ≡ batch_of pairs ++ behind
    → HasPairs bytes (flat_map pair_bytes pairs)
unfolding batch_payload
has_pairs_of bytes pairs behind is e =
    record { count = length pairs; begins = record { behind = behind; legal = is.fits; is = e }; sized = length-pairs pairs }

-- at an error there is no batch of good pairs
pub no_batch : (at : ℕ) (before : List (ℕ × ℕ)) (bytes : List ℕ) (fault : HeadFault) → FaultAt at before bytes fault
    → (pairs : List (ℕ × ℕ)) (behind : List ℕ) → IsBatch pairs → AreDistinct (ledgers_of (before ++ pairs)) → bytes ≡ batch_of pairs ++ behind → ⊥
no_batch at before bytes fault h pairs behind is distinct e = by_kind (kind_of at before bytes fault h)
  where
    has : HasPairs bytes (flat_map pair_bytes pairs)
    has = has_pairs_of bytes pairs behind is e

    by_kind : IsKind at before bytes fault → ⊥
    by_kind (IsKind.foreign f some none) = none _ has.begins (for_map_is has.count (flat_map pair_bytes pairs))
    by_kind (IsKind.unsized f payload s for-map n) =
        n (subst IsSized (same_payload bytes _ payload has.begins s)
        (sized_is has.count (flat_map pair_bytes pairs) (small_count bytes (flat_map pair_bytes pairs) has) has.sized))
    by_kind (IsKind.of_pair others has' p) =
        let x = first_wrong before (flat_map pair_bytes pairs) fault
        (subst (λ (y : List ℕ). PairFault before y fault) (same_bytes bytes others (flat_map pair_bytes pairs) has' has) p) in
        let all : pairs ≡ x.good ++ x.pair ∷ x.reaches.later = same_pairs _ _ (numbers_of pairs is.each) x.reaches.numbers x.reaches.bytes_are in
        no_good before x.good x.pair x.reaches.later (wrong before x.good x.pair fault x.is_of)
        (subst (λ (y : List (ℕ × ℕ)). AllByRecursion IsPair y) all is.each)
        (subst (λ (y : List (ℕ × ℕ)). AreDistinct (ledgers_of (before ++ y))) all distinct)

-- at an error there are bytes
pub no_end : (at : ℕ) (before : List (ℕ × ℕ)) (fault : HeadFault) → FaultAt at before [] fault → ⊥
no_end at before fault h = by_kind (kind_of at before [] fault h)
  where
    by_kind : IsKind at before [] fault → ⊥
    by_kind (IsKind.foreign f some none) = some refl
    by_kind (IsKind.unsized f payload s for-map n) = omega (arith, Begins-long [] payload s)
    by_kind (IsKind.of_pair pairs has p) = omega (arith, Begins-long [] _ has.begins)
