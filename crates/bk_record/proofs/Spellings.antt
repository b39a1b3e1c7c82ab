-- Every list of bytes is a body in one way, or bad at one position.
use Rattle.std.proofs.Common.{◌≡◌, ◌⊎◌, inl, inr, ℕ, zero, suc, ◌+◌, ◌-◌, ◌<◌, ◌≤◌, ◌^◌, ℤ, pos, ◌<ℤ◌, List, [], ◌∷◌, ◌++◌, length, take, drop, true, false}
use Rattle.std.proofs.Common.{refl, sym, ap, ◌∙◌, subst, arith, length-append, append_assoc, length-drop}
use Rattle.std.proofs.Math.Decide.{dec_le}
use Rattle.std.proofs.lemmas.List.{length-take, take-append-drop}
use Rattle.std.proofs.lemmas.Int.{ints, to_z_pos}
use Rattle.std.specs.Int.{w32, cast_signed}
use Rattle.bk_record.specs.Record.{record_of, IsPayload, length_field, signed_field}
use Rattle.bk_record.specs.Body.{starts_with_record, IsTorn, Body, IsBadAt, pieces, leftover}
use Rattle.bk_record.specs.Body.IsTorn.{short, cut}
use Rattle.bk_record.specs.Body.Body.{done, more, torn}
use Rattle.bk_record.specs.Spelling.{all_leftover, IsReadOneWay}
use Rattle.bk_record.proofs.Records.{IsBytes, bytes_drop, starts_when, starts_only, starts_false, record_in_front, length-record_of, length_field-append}
use Rattle.bk_record.proofs.Bodies.{pieces-body, leftover-body, pieces-stop, leftover-stop, pieces-step, leftover-step, body_record, body_append}
use Rattle.bk_record.proofs.Pieces.{signed_below}

-- bytes that do not begin with a whole record: none, a torn record, or a bad length
not_started : (bytes : List ℕ) → starts_with_record bytes ≡ false
    → (bytes ≡ []) ⊎ (IsTorn bytes ⊎ ((4 ≤ length bytes) × ((length_field bytes < 16) ⊎ (2 ^ 31 ≤ length_field bytes))))
not_started [] is = inl refl
not_started (b ∷ bs) is =
    let n = length_field (b ∷ bs) in
    elim (dec_le 4 (length (b ∷ bs))) [
      | no few ↦ inr (inl (short (omega arith) (omega arith)))
      | yes four ↦ elim (dec_le 16 n) [
        | no small ↦ inr (inr (four, inl (omega arith)))
        | yes least ↦ elim (dec_le (2 ^ 31) n) [
          | yes high ↦ inr (inr (four, inr high))
          | no most ↦ elim (dec_le (4 + n) (length (b ∷ bs))) [
            | yes whole ↦ let starts = starts_when (b ∷ bs) (record { field = four; least = least; most = omega arith; whole = whole }) in cc
            | no less ↦ inr (inl (cut four least (omega arith) (omega arith)))
          ]
        ]
      ]
    ]

signed_field-is : (bytes : List ℕ) → signed_field bytes ≡ cast_signed w32 (length_field bytes)
unfolding signed_field length_field
signed_field-is bytes = refl

signed_field-append : (field behind : List ℕ) → length field ≡ 4 → signed_field (field ++ behind) ≡ signed_field field
signed_field-append field behind four =
    signed_field-is (field ++ behind) ∙ ap (cast_signed w32) (length_field-append field behind four) ∙ sym (signed_field-is field)

-- a valid length is not below 16, also as a signed number
pub not_below : (bytes : List ℕ) → 16 ≤ length_field bytes → length_field bytes < 2 ^ 31 → signed_field bytes <ℤ pos 16 → ⊥
not_below bytes least most below =
    let same : signed_field bytes ≡ pos (length_field bytes) = signed_field-is bytes ∙ to_z_pos w32 (length_field bytes) most in
    let few : pos (length_field bytes) <ℤ pos 16 = subst (λ (v : ℤ). v <ℤ pos 16) same below in
    omega (arith, ints)

low_signed : (bytes : List ℕ) → (length_field bytes < 16) ⊎ (2 ^ 31 ≤ length_field bytes) → signed_field bytes <ℤ pos 16
low_signed bytes low = subst (λ (v : ℤ). v <ℤ pos 16) (sym (signed_field-is bytes)) (signed_below (length_field bytes) low)

-- ---- bytes that are bad at a position

pub bad_first : (from : ℕ) (bytes : List ℕ) → 4 ≤ length bytes → signed_field bytes <ℤ pos 16 → IsBadAt from bytes from (signed_field bytes)
bad_first from bytes four low =
    let size : length (take 4 bytes) ≡ 4 = omega (arith, length-take 4 bytes) in
    record {
      before = [];
      field = take 4 bytes;
      behind = drop 4 bytes;
      records = [];
      bytes_are = sym (take-append-drop 4 bytes);
      whole = done;
      four = size;
      value_is = ap signed_field (sym (take-append-drop 4 bytes)) ∙ signed_field-append (take 4 bytes) (drop 4 bytes) size;
      below = low;
      place = omega arith;
    }

-- whole records, then bad bytes
pub bad_append : {from : ℕ} {front : List ℕ} {records : List (ℕ × List ℕ)} (behind : List ℕ) (at : ℕ) (value : ℤ) → Body from front records []
    → IsBadAt (from + length front) behind at value → IsBadAt from (front ++ behind) at value
bad_append {from = from} {front = front} {records = records} behind at value body bad =
    let grouped : front ++ ((bad.before ++ bad.field) ++ bad.behind) ≡ ((front ++ bad.before) ++ bad.field) ++ bad.behind = sym (simp append_assoc) in
    record {
      before = front ++ bad.before;
      field = bad.field;
      behind = bad.behind;
      records = records ++ bad.records;
      bytes_are = ap (λ (b : List ℕ). front ++ b) bad.bytes_are ∙ grouped;
      whole = body_append body refl bad.whole;
      four = bad.four;
      value_is = bad.value_is;
      below = bad.below;
      place = omega (arith, bad.place, length-append front bad.before);
    }

-- whole records do not change the rest
leftover-behind : (most : ℕ) {from : ℕ} {before left : List ℕ} {records : List (ℕ × List ℕ)} (tail : List ℕ) → Body from before records left → left ≡ []
    → length (before ++ tail) ≤ most → starts_with_record tail ≡ false → leftover most (before ++ tail) ≡ tail
leftover-behind most tail (done) nothing enough is = leftover-stop most tail is
leftover-behind most tail (torn (short some less)) nothing enough is = absurd (omega (arith, some, ap length nothing))
leftover-behind most tail (torn (cut four least high less)) nothing enough is = absurd (omega (arith, four, ap length nothing))
leftover-behind zero tail (more {payload = payload} {behind = inner} legal body) nothing enough is =
    absurd (omega (arith, enough, length-append (record_of payload ++ inner) tail, length-append (record_of payload) inner, length-record_of payload))
leftover-behind (suc most) tail (more {payload = payload} {behind = inner} legal body) nothing enough is =
    ap (leftover (suc most)) (append_assoc (record_of payload) inner tail)
    ∙ leftover-step most payload (inner ++ tail) legal
    ∙ leftover-behind most tail body nothing
    (omega (
      arith,
      enough,
      length-append (record_of payload ++ inner) tail,
      length-append
          (record_of payload) inner,
      length-append inner tail,
      length-record_of payload,
    )) is

module _ (from : ℕ) (bytes : List ℕ) (at : ℕ) (value : ℤ) (bad : IsBadAt from bytes at value) where
  split_bytes : bytes ≡ bad.before ++ (bad.field ++ bad.behind)
  split_bytes = bad.bytes_are ∙ append_assoc bad.before bad.field bad.behind

  signed_tail : signed_field (bad.field ++ bad.behind) ≡ value
  signed_tail = signed_field-append bad.field bad.behind bad.four ∙ sym bad.value_is

  tail_below : signed_field (bad.field ++ bad.behind) <ℤ pos 16
  tail_below = subst (λ (v : ℤ). v <ℤ pos 16) (sym signed_tail) bad.below

  tail_starts : starts_with_record (bad.field ++ bad.behind) ≡ false
  tail_starts = starts_false _ (λ s. not_below _ s.least s.most tail_below)

  -- the computed rest begins with the bad length
  all_leftover-bad : all_leftover bytes ≡ bad.field ++ bad.behind
  all_leftover-bad =
      ap (leftover (length bytes)) split_bytes
      ∙ leftover-behind (length bytes) (bad.field ++ bad.behind) bad.whole refl (omega (arith, ap length split_bytes)) tail_starts

  pub bad_place : (at ≡ from + (length bytes - length (all_leftover bytes))) × (value ≡ signed_field (all_leftover bytes))
  bad_place = (
    omega (arith, bad.place, ap length split_bytes, length-append bad.before (bad.field ++ bad.behind), ap length all_leftover-bad),
    sym signed_tail ∙ ap signed_field (sym all_leftover-bad),
  )

  tail_torn : IsTorn (bad.field ++ bad.behind) → ⊥
  tail_torn (short some less) = omega (arith, less, bad.four, length-append bad.field bad.behind)
  tail_torn (cut four least most less) = not_below _ least most tail_below

-- ---- bytes that are a body

body_rest : {from : ℕ} {bytes rest : List ℕ} {records : List (ℕ × List ℕ)} → Body from bytes records rest → (rest ≡ []) ⊎ IsTorn rest
body_rest (done) = inl refl
body_rest (torn is) = inr is
body_rest (more legal body) = body_rest body

pub never_both : (from : ℕ) (bytes : List ℕ) (records : List (ℕ × List ℕ)) (rest : List ℕ) (at : ℕ) (value : ℤ) → Body from bytes records rest
    → IsBadAt from bytes at value → ⊥
never_both from bytes records rest at value body bad =
    let left : rest ≡ bad.field ++ bad.behind = sym (leftover-body (length bytes) body (omega arith)) ∙ all_leftover-bad from bytes at value bad in
    elim (body_rest body) [
      | inl none ↦ omega (arith, ap length left, ap length none, bad.four, length-append bad.field bad.behind)
      | inr is ↦ tail_torn from bytes at value bad (subst IsTorn left is)
    ]

-- the bytes are a body with the computed records and rest, or they are bad
abbrev Told : ℕ → ℕ → List ℕ → Type 0
Told most from bytes = Body from bytes (pieces most from bytes) (leftover most bytes) ⊎ ((at : ℕ) × ((value : ℤ) × IsBadAt from bytes at value))

told_stop : (most from : ℕ) (bytes : List ℕ) → starts_with_record bytes ≡ false → Told most from bytes
told_stop most from bytes is =
    let stays : Body from bytes [] bytes → Told most from bytes = λ body.
    inl (subst (λ (r : List (ℕ × List ℕ)). Body from bytes r (leftover most bytes)) (sym (pieces-stop most from bytes is))
    (subst (λ (l : List ℕ). Body from bytes [] l) (sym (leftover-stop most bytes is)) body)) in
    elim (not_started bytes is) [
      | inl none ↦ stays (subst (λ (b : List ℕ). Body from b [] b) (sym none) done)
      | inr some ↦ elim some [
        | inl cut_off ↦ stays (torn cut_off)
        | inr low ↦ inr (from, (signed_field bytes, bad_first from bytes low.0 (low_signed bytes low.1)))
      ]
    ]

told_more : (most from : ℕ) (payload behind : List ℕ) → IsPayload payload → Told most (from + 4 + length payload) behind
    → Told (suc most) from (record_of payload ++ behind)
told_more most from payload behind legal (inl body) =
    let bytes = record_of payload ++ behind in
    inl (subst (λ (r : List (ℕ × List ℕ)). Body from bytes r (leftover (suc most) bytes)) (sym (pieces-step most from payload behind legal))
    (subst (λ (l : List ℕ). Body from bytes ((from + 4, payload) ∷ pieces most (from + 4 + length payload) behind) l)
    (sym (leftover-step most payload behind legal)) (more legal body)))
told_more most from payload behind legal (inr bad) = inr (
  bad.0,
  (
    bad.1.0,
    bad_append behind bad.0 bad.1.0 (body_record from payload legal)
        (subst (λ (n : ℕ). IsBadAt n behind bad.0 bad.1.0) (omega (arith, length-record_of payload)) bad.1.1),
  ),
)

told : (most from : ℕ) (bytes : List ℕ) → IsBytes bytes → length bytes ≤ most → Told most from bytes
told zero from [] each enough = inl done
told zero from (b ∷ bs) each enough = absurd (omega arith)
told (suc most) from bytes each enough =
    let n = length_field bytes in
    let payload = take n (drop 4 bytes) in
    elim (starts_with_record bytes) as (λ b. starts_with_record bytes ≡ b → Told (suc most) from bytes) [
      | false ↦ λ is. told_stop (suc most) from bytes is
      | true ↦ λ is.
          let s = starts_only bytes is in
          let size : length payload ≡ n = omega (arith, s.whole, length-take n (drop 4 bytes), length-drop 4 bytes) in
          subst (Told (suc most) from) (sym (record_in_front bytes each s))
          (told_more most from payload (drop (4 + n) bytes) (omega (arith, s.least), omega (arith, s.most))
          (told most (from + 4 + length payload) (drop (4 + n) bytes) (bytes_drop (4 + n) bytes each)
          (omega (arith, enough, s.whole, length-drop (4 + n) bytes))))
    ] refl

pub read_one_way : (from : ℕ) (bytes : List ℕ) → IsBytes bytes → IsReadOneWay from bytes
read_one_way from bytes each = record {
  spelled_or_bad = elim (told (length bytes) from bytes each (omega arith)) [
    | inl body ↦ inl body
    | inr bad ↦ let is = bad_place from bytes bad.0 bad.1.0 bad.1.1 in
        inr (subst (λ (a : ℕ). IsBadAt from bytes a (signed_field (all_leftover bytes))) is.0 (subst (λ (v : ℤ). IsBadAt from bytes bad.0 v) is.1 bad.1.1))
  ];
  one_spelling = λ records rest body. (sym (pieces-body (length bytes) body (omega arith)), sym (leftover-body (length bytes) body (omega arith)));
  one_place = λ at value bad. bad_place from bytes at value bad;
  never_both = λ records rest at value body bad. never_both from bytes records rest at value body bad;
}
