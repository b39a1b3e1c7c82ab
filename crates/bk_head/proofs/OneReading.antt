-- The bytes of a map have one reading: one map, or one first error.
use Rattle.std.proofs.Common.{◌≡◌, ◌≢◌, ℕ, ◌+◌, List, [], ◌++◌, length, Option, Some, None, Result, Ok, Err, refl, sym, ap, subst, ◌∙◌, append_assoc, arith}
use Rattle.std.specs.FinMap as ledgers
use Rattle.std.proofs.lemmas.List.{append-nil, length-append}
use Rattle.bk_record.proofs.Records.{length-record_of}
use Rattle.bk_head.specs.declared.header.Header.{Header}
use Rattle.bk_head.specs.declared.fault.HeadFault.{HeadFault}
use Rattle.bk_head.specs.declared.fault.HeadFault.TheVariants.{BadMagic, Version, Negative, NotAMap, MapLength, Repeated, CountDiffers, Memory}
use Rattle.bk_head.specs.Ledgers.{LedgersMap, batch_payload, batch_of, IsBatch, Batches, ledgers_of, AreDistinct, SpellsMap}
use Rattle.bk_head.specs.Faults.{FaultAt, FirstFault}
use Rattle.bk_head.specs.Reading.{MapAnswer, AnswerAt, TailAnswer, map_place}
use Rattle.bk_head.proofs.Distinct.{AreDistinct-front, ledgers_of-append}
use Rattle.bk_head.proofs.Pairs.{same_pairs}
use Rattle.bk_head.proofs.Adding.{numbers_of}
use Rattle.bk_head.proofs.RecordBytes.{same_record}
use Rattle.bk_head.proofs.OneFault.{has_pairs_of, same_bytes, same_fault, no_batch, no_end}

-- no correct batch with new ledgers begins here
abbrev Stops : List (ℕ × ℕ) → List ℕ → Type 0
Stops before bytes = (pairs : List (ℕ × ℕ)) (behind : List ℕ) → IsBatch pairs → AreDistinct (ledgers_of (before ++ pairs)) → bytes
    ≡ batch_of pairs ++ behind → ⊥

stops_at_end : (before : List (ℕ × ℕ)) → Stops before []
stops_at_end before pairs behind is distinct e = omega (arith, ap length e, length-append (batch_of pairs) behind, length-record_of (batch_payload pairs))

-- two batches that begin the same bytes are equal
same_batch : (p q : List (ℕ × ℕ)) (x y : List ℕ) → IsBatch p → IsBatch q → batch_of p ++ x ≡ batch_of q ++ y → (p ≡ q) × (x ≡ y)
same_batch p q x y is-p is-q e =
    let both = same_record (batch_payload p) (batch_payload q) x y is-p.fits is-q.fits e in (
      same_pairs p q (numbers_of p is-p.each) (numbers_of q is-q.each)
          (same_bytes (batch_of p ++ x) _ _ (has_pairs_of (batch_of p ++ x) p x is-p refl) (has_pairs_of (batch_of p ++ x) q y is-q e)),
      both.1,
    )

front_distinct : (before p q : List (ℕ × ℕ)) → AreDistinct (ledgers_of (before ++ (p ++ q))) → AreDistinct (ledgers_of (before ++ p))
front_distinct before p q d =
    AreDistinct-front (ledgers_of (before ++ p)) (ledgers_of q)
    (subst AreDistinct (ap ledgers_of (sym (append_assoc before p q)) ∙ ledgers_of-append (before ++ p) q) d)

-- two parses of the same bytes are equal
record IsSame (p q : List (ℕ × ℕ)) (v w x y : List ℕ) : Type 0 where
  pairs : p ≡ q
  whole : v ≡ w
  rest : x ≡ y

same_reading : (before p q : List (ℕ × ℕ)) (v w x y : List ℕ) → Batches v p → Batches w q → v ++ x ≡ w ++ y → AreDistinct (ledgers_of (before ++ p))
    → AreDistinct (ledgers_of (before ++ q))
    → Stops (before ++ p) x → Stops (before ++ q) y → IsSame p q v w x y
same_reading before _ _ _ _ x y Batches.none Batches.none e d d' s s' = record { pairs = refl; whole = refl; rest = e }
same_reading before _ _ _ _ x y Batches.none (Batches.more {pairs = q} {others = o} {behind = w} is b) e d d' s s' =
    absurd (s q (w ++ y) is (subst (λ (z : List (ℕ × ℕ)). AreDistinct (ledgers_of (z ++ q))) (sym (append-nil before))
    (front_distinct before q o d')) (e ∙ append_assoc (batch_of q) w y))
same_reading before _ _ _ _ x y (Batches.more {pairs = p} {others = o} {behind = v} is b) Batches.none e d d' s s' =
    absurd (s' p (v ++ x) is (subst (λ (z : List (ℕ × ℕ)). AreDistinct (ledgers_of (z ++ p))) (sym (append-nil before))
    (front_distinct before p o d)) (sym e ∙ append_assoc (batch_of p) v x))
same_reading before _ _ _ _ x y (Batches.more {pairs = p} {others = o} {behind = v} is b)
    (Batches.more {pairs = q} {others = o'} {behind = w} is' b') e d d' s s' =
    let first = same_batch p q (v ++ x) (w ++ y) is is' (sym (append_assoc (batch_of p) v x) ∙ e ∙ append_assoc (batch_of q) w y) in
    let past : before ++ (p ++ o) ≡ (before ++ p) ++ o = sym (append_assoc before p o) in
    let past' : before ++ (q ++ o') ≡ (before ++ p) ++ o' = sym (append_assoc before q o') ∙ ap (λ (z : List (ℕ × ℕ)). (before ++ z) ++ o') (sym first.0) in
    let rest = same_reading (before ++ p) o o' v w x y b b' first.1 (subst (λ (z : List (ℕ × ℕ)). AreDistinct (ledgers_of z)) past d)
    (subst (λ (z : List (ℕ × ℕ)). AreDistinct (ledgers_of z)) past' d')
    (subst (λ (z : List (ℕ × ℕ)). Stops z x) past s) (subst (λ (z : List (ℕ × ℕ)). Stops z y) past' s') in
    record { pairs = λ i. first.0 i ++ rest.pairs i; whole = λ i. batch_of (first.0 i) ++ rest.whole i; rest = rest.rest }

pub one_map : (bytes : List ℕ) (m n : LedgersMap) → SpellsMap bytes m → SpellsMap bytes n → m ≡ n
one_map bytes m n s t =
    let same = same_reading [] s.pairs t.pairs bytes bytes [] [] s.spelled t.spelled refl s.distinct t.distinct (stops_at_end s.pairs)
    (stops_at_end t.pairs) in
    s.map_is ∙ ap (λ (z : List (ℕ × ℕ)). ledgers.from_entries z) same.pairs ∙ sym t.map_is

pub no_fault : (from : ℕ) (bytes : List ℕ) (m : LedgersMap) (fault : HeadFault) → SpellsMap bytes m → FirstFault from bytes fault → ⊥
no_fault from bytes m fault s t =
    let same = same_reading [] s.pairs t.pairs bytes t.whole [] t.rest s.spelled t.spelled (append-nil bytes ∙ t.bytes_are) s.distinct t.distinct
    (stops_at_end s.pairs) (no_batch (from + length t.whole) t.pairs t.rest fault t.stands) in
    no_end (from + length t.whole) t.pairs fault (subst (λ (z : List ℕ). FaultAt (from + length t.whole) t.pairs z fault) (sym same.rest) t.stands)

pub one_fault : (from : ℕ) (bytes : List ℕ) (f g : HeadFault) → FirstFault from bytes f → FirstFault from bytes g → f ≡ g
one_fault from bytes f g s t =
    let same = same_reading [] s.pairs t.pairs s.whole t.whole s.rest t.rest s.spelled t.spelled (sym s.bytes_are ∙ t.bytes_are) s.distinct t.distinct
    (no_batch (from + length s.whole) s.pairs s.rest f s.stands) (no_batch (from + length t.whole) t.pairs t.rest g t.stands) in
    let at_rest = subst (λ (z : List ℕ). FaultAt (from + length t.whole) t.pairs z g) (sym same.rest) t.stands in
    let at_pairs = subst (λ (z : List (ℕ × ℕ)). FaultAt (from + length t.whole) z s.rest g) (sym same.pairs) at_rest in
    let here = subst (λ (z : List ℕ). FaultAt (from + length z) s.pairs s.rest g) (sym same.whole) at_pairs in
    same_fault (from + length s.whole) s.pairs s.rest f g s.stands here

-- ---- the result

-- the result for the bytes from the offset, by its cause
data IsTold (offset count : ℕ) (tail : List ℕ) (answer : Result (Option LedgersMap) HeadFault) : Type 0 where
  found : (map : LedgersMap) → answer ≡ Ok (Some map) → SpellsMap tail map → ledgers.len map ≡ count → IsTold offset count tail answer
  differs : (map : LedgersMap) → answer ≡ Err (CountDiffers (ledgers.len map)) → SpellsMap tail map → ledgers.len map ≢ count
      → IsTold offset count tail answer
  fails : (fault : HeadFault) → answer ≡ Err fault → FirstFault offset tail fault → IsTold offset count tail answer

told_of : (offset count : ℕ) (tail : List ℕ) (answer : Result (Option LedgersMap) HeadFault) → TailAnswer offset count tail answer
    → IsTold offset count tail answer
told_of offset count tail (Ok None) h = absurd h
told_of offset count tail (Ok (Some map)) h = IsTold.found map refl h.0 h.1
told_of offset count tail (Err (CountDiffers n)) h =
    IsTold.differs h.0 (ap (λ k. Err (CountDiffers k)) h.1.1.0) h.1.0 (λ e. h.1.1.1 (h.1.1.0 ∙ e))
told_of offset count tail (Err BadMagic) h = IsTold.fails BadMagic refl h
told_of offset count tail (Err (Version version)) h = IsTold.fails (Version version) refl h
told_of offset count tail (Err Negative) h = IsTold.fails Negative refl h
told_of offset count tail (Err (NotAMap at)) h = IsTold.fails (NotAMap at) refl h
told_of offset count tail (Err (MapLength at)) h = IsTold.fails (MapLength at) refl h
told_of offset count tail (Err (Repeated ledger)) h = IsTold.fails (Repeated ledger) refl h
told_of offset count tail (Err Memory) h = IsTold.fails Memory refl h

same_told : (offset count : ℕ) (tail : List ℕ) (a b : Result (Option LedgersMap) HeadFault) → IsTold offset count tail a → IsTold offset count tail b → a ≡ b
same_told offset count tail a b (IsTold.found m e s l) (IsTold.found n e' s' l') = e ∙ ap (λ x. Ok (Some x)) (one_map tail m n s s') ∙ sym e'
same_told offset count tail a b (IsTold.found m e s l) (IsTold.differs n e' s' l') = absurd (l' (ap (λ x. ledgers.len x) (one_map tail n m s' s) ∙ l))
same_told offset count tail a b (IsTold.found m e s l) (IsTold.fails f e' t) = absurd (no_fault offset tail m f s t)
same_told offset count tail a b (IsTold.differs m e s l) (IsTold.found n e' s' l') = absurd (l (ap (λ x. ledgers.len x) (one_map tail m n s s') ∙ l'))
same_told offset count tail a b (IsTold.differs m e s l) (IsTold.differs n e' s' l') = e
    ∙ ap (λ x. Err (CountDiffers (ledgers.len x))) (one_map tail m n s s') ∙ sym e'
same_told offset count tail a b (IsTold.differs m e s l) (IsTold.fails f e' t) = absurd (no_fault offset tail m f s t)
same_told offset count tail a b (IsTold.fails f e t) (IsTold.found n e' s' l') = absurd (no_fault offset tail n f s' t)
same_told offset count tail a b (IsTold.fails f e t) (IsTold.differs n e' s' l') = absurd (no_fault offset tail n f s' t)
same_told offset count tail a b (IsTold.fails f e t) (IsTold.fails g e' t') = e ∙ ap (λ x. Err x) (one_fault offset tail f g t t') ∙ sym e'

same_at : (place : Result (Option (ℕ × ℕ)) HeadFault) (tail : List ℕ) (a b : Result (Option LedgersMap) HeadFault) → AnswerAt place tail a
    → AnswerAt place tail b → a ≡ b
same_at (Err fault) tail a b h k = h ∙ sym k
same_at (Ok None) tail a b h k = h ∙ sym k
same_at (Ok (Some place)) tail a b h k = same_told place.0 place.1 tail a b (told_of place.0 place.1 tail a h) (told_of place.0 place.1 tail b k)

-- there is one result
pub one_answer : (tail : List ℕ) (long : ℕ) (header : Header) (a b : Result (Option LedgersMap) HeadFault) → MapAnswer tail long header a
    → MapAnswer tail long header b → a ≡ b
unfolding MapAnswer
one_answer tail long header a b h k = same_at (map_place long header.map_offset header.count) tail a b h k
