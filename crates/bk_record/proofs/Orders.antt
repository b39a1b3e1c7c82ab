-- The records of a set of files are in order of log, then position.
use Rattle.std.proofs.Common.{◌≡◌, inl, inr, ℕ, zero, suc, ◌+◌, ◌<◌, cond, List, [], ◌∷◌, ◌++◌, length, take, drop, true, false, refl, ap, arith, T}
use Rattle.std.proofs.lemmas.Bool.{ltb-true}
use Rattle.std.specs.Prelude.{nat_lt, ◌==◌}
use Rattle.std.specs.declared.cmp.Ordering.TheVariants.{Less, Equal, Greater}
use Rattle.std.specs.List.{flat_map}
use Rattle.std.specs.Ordering.{nat_cmp, is_lt}
use Rattle.std.specs.FinMap as finite
use Rattle.std.specs.FinMap.{nat_cmp-IsAntisymmetric}
use Rattle.std.specs.FinMap.Entries.{is_sorted}
use Rattle.std.proofs.lemmas.Cmp.{nat_cmp_total}
use Rattle.bk_record.specs.Location.{Place, Precedes}
use Rattle.bk_record.specs.Record.{length_field}
use Rattle.bk_record.specs.Body.{starts_with_record, pieces}
use Rattle.bk_record.specs.Files.{Files, header_length, records_of, placed, all_records, In}
use Rattle.bk_record.specs.Latest.{AreInOrder}
use Rattle.bk_record.proofs.Growth.{In-append_cases}
use Rattle.bk_record.proofs.Entries.{and_left, and_right, below-In, flat_map-In, map-In}

-- concatenation of two lists in order
in_order-append : (xs ys : List (Place × List ℕ)) → AreInOrder xs → AreInOrder ys
    → ((p q : Place) (x y : List ℕ) → In (p, x) xs → In (q, y) ys → Precedes p q) → AreInOrder (xs ++ ys)
in_order-append [] ys first second between = second
in_order-append (r ∷ xs) ys first second between = (
  λ q y there. elim (In-append_cases (q, y) xs ys there) [
    | inl near ↦ first.0 q y near
    | inr far ↦ between r.0 q r.1 y (inl refl) far
  ],
  in_order-append xs ys first.1 second (λ p q x y here there. between p q x y (inr here) there),
)

-- ---- one log

-- the pieces of bytes are after the position of the bytes
pub pieces_behind : (most from : ℕ) (bytes : List ℕ) (at : ℕ) (payload : List ℕ) → In (at, payload) (pieces most from bytes) → from < at
pieces_behind zero from bytes at payload there = absurd there
pieces_behind (suc most) from bytes at payload there =
    let n = length_field bytes in
    elim (starts_with_record bytes) as (λ b. In (at, payload)
    (cond b ((from + 4, take n (drop 4 bytes)) ∷ pieces most (from + 4 + n) (drop (4 + n) bytes)) []) → from < at) [
      | false ↦ λ none. absurd none
      | true ↦ λ some. elim some [
        | inl here ↦ let place : from + 4 ≡ at = ap (λ (r : ℕ × List ℕ). r.0) here in omega arith
        | inr later ↦ let far = pieces_behind most (from + 4 + n) (drop (4 + n) bytes) at payload later in omega arith
      ]
    ] there

pieces_in_order : (log most from : ℕ) (bytes : List ℕ) → AreInOrder (placed log (pieces most from bytes))
pieces_in_order log zero from bytes = tt
pieces_in_order log (suc most) from bytes =
    let n = length_field bytes in
    let next = pieces most (from + 4 + n) (drop (4 + n) bytes) in
    elim (starts_with_record bytes) as (λ b. AreInOrder (placed log (cond b ((from + 4, take n (drop 4 bytes)) ∷ next) []))) [
      | false ↦ tt
      | true ↦ (
        λ place payload there.
            let found = map-In (λ r. (record { log = log; at = r.0 }, r.1)) (place, payload) next there in
            let far = pieces_behind most (from + 4 + n) (drop (4 + n) bytes) found.0.0 found.0.1 found.1.0 in
            let at : found.0.0 ≡ place.at = ap (λ (r : Place × List ℕ). r.0.at) found.1.1 in
            inr (ap (λ (r : Place × List ℕ). r.0.log) found.1.1, omega arith),
        pieces_in_order log most (from + 4 + n) (drop (4 + n) bytes),
      )
    ]

-- ---- all logs

pub less_told : (a b : ℕ) → T (is_lt (nat_cmp a b)) → a < b
less_told a b is =
    elim (nat_lt a b) as (λ l. nat_lt a b ≡ l → T (is_lt (cond l Less (cond (a == b) Equal Greater))) → a < b) [
      | true ↦ λ less _. ltb-true a b less
      | false ↦ λ _ told. elim (a == b) as (λ e. T (is_lt (cond e Equal Greater))
          → a < b) [ true ↦ λ never. absurd never | false ↦ λ never. absurd never ] told
    ] refl is

logs_in_order : (files : List (ℕ × List ℕ)) → T (is_sorted nat_cmp files) → AreInOrder (flat_map (λ f. placed f.0 (records_of f.1)) files)
unfolding records_of
logs_in_order [] sorted = tt
logs_in_order (f ∷ files) sorted =
    in_order-append (placed f.0 (records_of f.1)) (flat_map (λ f. placed f.0 (records_of f.1)) files)
    (pieces_in_order f.0 (length f.1) header_length (drop header_length f.1)) (logs_in_order files (and_right _ _ sorted))
    (λ p q x y here there.
    let mine = map-In (λ r. (record { log = f.0; at = r.0 }, r.1)) (p, x) (records_of f.1) here in
    let other = flat_map-In (λ f. placed f.0 (records_of f.1)) (q, y) files there in
    let theirs = map-In (λ r. (record { log = other.0.0; at = r.0 }, r.1)) (q, y) (records_of other.0.1) other.1.1 in
    let less = less_told f.0 other.0.0 (below-In nat_cmp_total nat_cmp-IsAntisymmetric f.0 other.0.0 other.0.1 files (and_left _ _ sorted) other.1.0) in
    let left : f.0 ≡ p.log = ap (λ (r : Place × List ℕ). r.0.log) mine.1.1 in
    let right : other.0.0 ≡ q.log = ap (λ (r : Place × List ℕ). r.0.log) theirs.1.1 in
    inl (omega arith))

pub all_records_in_order : (files : Files) → AreInOrder (all_records files)
unfolding all_records
all_records_in_order files = logs_in_order (finite.entries files) (finite.entries_sorted files)
