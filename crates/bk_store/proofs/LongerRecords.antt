-- A log that only grows after its header keeps its records.
use Rattle.std.proofs.Common.{◌≡◌, inl, inr, ℕ, zero, suc, ◌+◌, ◌≤◌, cond, List, [], ◌∷◌, ◌++◌, length, take, drop, Bool, true, false}
use Rattle.std.proofs.Common.{refl, sym, ap, ◌∙◌, subst, arith, length-append, length-drop}
use Rattle.std.proofs.Math.Decide.{dec_le}
use Rattle.std.proofs.lemmas.List.{take-append-le, drop-append-le}
use Rattle.bk_record.specs.Record.{length_field}
use Rattle.bk_record.specs.Body.{starts_with_record, pieces}
use Rattle.bk_record.specs.Files.{header_length, records_of, In}
use Rattle.bk_record.specs.Longer.{IsLonger}
use Rattle.bk_record.proofs.Records.{Starts, starts_only, starts_when, length_field-take}
use Rattle.bk_record.proofs.Growth.{records_of-short}

field_longer : (bytes more : List ℕ) → 4 ≤ length bytes → length_field (bytes ++ more) ≡ length_field bytes
field_longer bytes more four =
    sym (length_field-take 4 (bytes ++ more) (omega arith) (omega (arith, length-append bytes more)))
    ∙ ap length_field (take-append-le 4 bytes more four)
    ∙ length_field-take 4 bytes (omega arith) four

starts_longer : (bytes more : List ℕ) → Starts bytes → starts_with_record (bytes ++ more) ≡ true
starts_longer bytes more s =
    let field = field_longer bytes more s.field in
    let size = length-append bytes more in
    starts_when _ (record { field = omega (arith, s.field); least = omega (arith, s.least); most = omega (arith, s.most); whole = omega (arith, s.whole) })

-- what pieces give of bytes that begin with a record
pieces-starts : (most from : ℕ) (bytes : List ℕ) → starts_with_record bytes ≡ true
    → pieces (suc most) from bytes ≡ (from + 4, take (length_field bytes) (drop 4 bytes)) ∷ pieces most (from + 4 + length_field bytes)
    (drop (4 + length_field bytes) bytes)
pieces-starts most from bytes is =
    ap (λ (b : Bool). cond b ((from + 4, take (length_field bytes) (drop 4 bytes)) ∷ pieces most (from + 4 + length_field bytes)
    (drop (4 + length_field bytes) bytes)) []) is

pieces-longer : (m n from : ℕ) (bytes more : List ℕ) (x : ℕ × List ℕ) → m ≤ n → In x (pieces m from bytes) → In x (pieces n from (bytes ++ more))
pieces-longer zero n from bytes more x le there = absurd there
pieces-longer (suc m) zero from bytes more x le there = absurd (omega arith)
pieces-longer (suc m) (suc n) from bytes more x le there =
    elim (starts_with_record bytes) as (λ b. starts_with_record bytes ≡ b
    → In x (cond b ((from + 4, take (length_field bytes) (drop 4 bytes)) ∷ pieces m (from + 4 + length_field bytes)
    (drop (4 + length_field bytes) bytes)) []) → In x (pieces (suc n) from (bytes ++ more))) [
      | false ↦ λ _ none. absurd none
      | true ↦ λ is found.
          let s = starts_only bytes is in
          let field = field_longer bytes more s.field in
          let first : take (length_field bytes) (drop 4 (bytes ++ more)) ≡ take (length_field bytes) (drop 4 bytes) =
          ap (take (length_field bytes)) (drop-append-le 4 bytes more s.field)
          ∙ take-append-le (length_field bytes) (drop 4 bytes) more (omega (arith, s.whole, length-drop 4 bytes)) in
          let behind : drop (4 + length_field bytes) (bytes ++ more)
          ≡ drop (4 + length_field bytes) bytes ++ more = drop-append-le (4 + length_field bytes) bytes more s.whole in
          let list : pieces (suc n) from (bytes ++ more)
          ≡ (from + 4, take (length_field bytes) (drop 4 bytes)) ∷ pieces n (from + 4 + length_field bytes)
          (drop (4 + length_field bytes) bytes ++ more) =
          pieces-starts n from (bytes ++ more) (starts_longer bytes more s)
          ∙ ap (λ (k : ℕ). (from + 4, take k (drop 4 (bytes ++ more))) ∷ pieces n (from + 4 + k) (drop (4 + k) (bytes ++ more))) field
          ∙ ap (λ (p : List ℕ). (from + 4, p) ∷ pieces n (from + 4 + length_field bytes) (drop (4 + length_field bytes) (bytes ++ more))) first
          ∙ ap (λ (b : List ℕ). (from + 4, take (length_field bytes) (drop 4 bytes)) ∷ pieces n (from + 4 + length_field bytes) b) behind in
          subst (λ (l : List (ℕ × List ℕ)). In x l) (sym list)
          (elim found as (λ _. In x ((from + 4, take (length_field bytes) (drop 4 bytes)) ∷ pieces n (from + 4 + length_field bytes)
          (drop (4 + length_field bytes) bytes ++ more))) [
            | inl e ↦ inl e
            | inr later ↦ inr (pieces-longer m n _ _ more x (omega arith) later)
          ])
    ] refl there

pub records-longer : (front whole : List ℕ) (x : ℕ × List ℕ) → IsLonger front whole → In x (records_of front) → In x (records_of whole)
unfolding records_of
records-longer front whole x longer there = elim (dec_le (length front) header_length) [
  | yes short ↦ absurd (subst (λ (l : List (ℕ × List ℕ)). In x l) (records_of-short front short) there)
  | no headed ↦
      let size : length (drop header_length whole) ≡ length (drop header_length front) + length longer.behind = ap length longer.is
      ∙ length-append (drop header_length front) longer.behind in
      subst (λ (b : List ℕ). In x (pieces (length whole) header_length b)) (sym longer.is)
      (pieces-longer (length front) (length whole) header_length (drop header_length front) longer.behind x
      (omega (arith, size, length-drop header_length whole, length-drop header_length front)) there)
]
