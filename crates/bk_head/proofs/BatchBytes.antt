-- The payload of a batch: its ids, its count, and the bytes of its pairs.
use Rattle.std.proofs.Common.{◌≡◌, ℕ, ◌*◌, Bool, true, eqb, pos, List, ◌++◌, length, take, drop, refl, sym, ap, subst, ◌∙◌, append_assoc, arith, ◌<◌, ◌^◌, ◌+◌}
use Rattle.std.specs.List.{starts_with}
use Rattle.std.specs.Int.{w32, to_be_bytes, from_be_bytes, cast_unsigned}
use Rattle.std.proofs.lemmas.Bool.Decides.{Decides-eqb}
use Rattle.std.proofs.lemmas.Slice.Eq.{slice_eq-Decides}
use Rattle.std.proofs.lemmas.Int.{of_z-to_z}
use Rattle.std.proofs.lemmas.List.{take-append-drop, drop-drop}
use Rattle.bk_record.specs.Record.{signed_field}
use Rattle.bk_head.specs.Ledgers.{batch_ids}
use Rattle.bk_record.specs.Piece.{BeginsWith}
use Rattle.bk_head.specs.Faults.{IsForMap, IsSized, HasPairs}
use Rattle.bk_head.proofs.RecordBytes.{same_record}

pub length-batch_ids : length batch_ids ≡ 16
unfolding batch_ids
length-batch_ids = refl

-- ---- the ids

ids_asked : (payload ids : List ℕ) (r : Bool) → ids ≡ batch_ids → r ≡ starts_with eqb payload ids → (r ≡ true → IsForMap payload)
    × (IsForMap payload → r ≡ true)
ids_asked payload ids r is asked =
    let long : length ids ≡ 16 = ap length is ∙ length-batch_ids in
    let answer = slice_eq-Decides Decides-eqb ids (take (length ids) payload) r asked in
    ((λ h. ap (λ n. take n payload) (sym long) ∙ sym (answer.0 h) ∙ is), (λ h. answer.1 (is ∙ sym h ∙ ap (λ n. take n payload) (sym long))))

pub is_for_map : (payload ids : List ℕ) (r : Bool) → ids ≡ batch_ids → r ≡ starts_with eqb payload ids → r ≡ true → IsForMap payload
is_for_map payload ids r is asked h = (ids_asked payload ids r is asked).0 h

pub same_payload : (bytes p q : List ℕ) → BeginsWith bytes p → BeginsWith bytes q → p ≡ q
same_payload bytes p q s t = (same_record p q s.behind t.behind s.legal t.legal (sym s.is ∙ t.is)).0

pub is_asked : (payload ids : List ℕ) (r : Bool) → ids ≡ batch_ids → r ≡ starts_with eqb payload ids → IsForMap payload → r ≡ true
is_asked payload ids r is asked for_map = (ids_asked payload ids r is asked).1 for_map

-- ---- the count

-- a count that is not negative is the unsigned number of the same bytes
count_is : (bytes : List ℕ) (count : ℕ) → from_be_bytes w32 bytes < 2 ^ 32 → signed_field bytes ≡ pos count → from_be_bytes w32 bytes ≡ count
unfolding signed_field
count_is bytes count fits e = sym (of_z-to_z w32 (from_be_bytes w32 bytes) fits) ∙ ap (cast_unsigned w32) e

pub not_sized : (payload : List ℕ) (n : ℕ) → n < 2 ^ 32 → n ≡ from_be_bytes w32 (drop 16 payload) → (length payload ≡ 20 + 16 * n → ⊥) → IsSized payload → ⊥
not_sized payload n fits read other s =
    let same : n ≡ s.0 = read ∙ count_is (drop 16 payload) s.0 (subst (λ k. k < 2 ^ 32) read fits) s.1.0 in
    other (omega (arith, s.1.1, same))

-- ---- the pairs

pub has_pairs : (bytes payload pairs : List ℕ) (n : ℕ) → BeginsWith bytes payload → IsForMap payload → pairs ≡ drop 20 payload
    → to_be_bytes w32 n ≡ take 4 (drop 16 payload) → length pairs ≡ 16 * n → HasPairs bytes pairs
has_pairs bytes payload pairs n s for_map is count sized =
    let parts : payload ≡ take 16 payload ++ (take 4 (drop 16 payload) ++ drop 20 payload) =
    sym (take-append-drop 16 payload) ∙ ap (λ (x : List ℕ). take 16 payload ++ x) (sym (take-append-drop 4 (drop 16 payload))
    ∙ ap (λ (x : List ℕ). take 4 (drop 16 payload) ++ x) (drop-drop 4 16 payload)) in
    let spelled : payload ≡ batch_ids ++ to_be_bytes w32 n ++ pairs = parts
    ∙ rw (for_map, ← count, ← is) (sym (append_assoc batch_ids (to_be_bytes w32 n) pairs)) in
    record { count = n; begins = subst (BeginsWith bytes) spelled s; sized = sized }
