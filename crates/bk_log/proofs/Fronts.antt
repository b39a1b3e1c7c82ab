-- The start of bytes, from the first 20.
use Rattle.std.proofs.Common.{◌≡◌, ◌⊎◌, inl, inr, ℕ, ◌+◌, ◌<◌, ◌≤◌, ◌^◌, ℤ, pos, ◌<ℤ◌, List, [], ◌∷◌, length, take, drop, min}
use Rattle.std.proofs.Common.{Option, refl, sym, ap, ◌∙◌, subst, arith, length-drop}
use Rattle.std.proofs.Math.Decide.{dec_le}
use Rattle.std.proofs.lemmas.List.{take-take, drop-take, length-take}
use Rattle.std.proofs.lemmas.Int.{of_z-to_z}
use Rattle.std.specs.Int.{w32, to_be_bytes, cast_signed, cast_unsigned}
use Rattle.bk_record.specs.Key.{EntryKey}
use Rattle.bk_record.specs.Record.{key_of, length_field, signed_field}
use Rattle.bk_record.specs.Body.{IsTorn}
use Rattle.bk_record.specs.Body.IsTorn.{short, cut}
use Rattle.bk_record.specs.Piece.{BeginsWith}
use Rattle.bk_record.proofs.Records.{length_field-take}
use Rattle.bk_record.proofs.Pieces.{signed_below, length-payload, begins_with_field}
use Rattle.bk_log.proofs.Begins.{key_of-take}

-- fewer bytes than a length field are torn, or none
pub rest_short : (bytes : List ℕ) → length bytes < 4 → IsTorn bytes ⊎ (bytes ≡ [])
rest_short [] less = inr refl
rest_short (b ∷ bytes) less = inl (short (omega arith) less)

-- the length field is in the head
pub field_shown : (bytes head : List ℕ) (n : ℕ) → head ≡ take 20 bytes → 4 ≤ length bytes → n ≡ length_field head → n ≡ length_field bytes
field_shown bytes head n is four read = read ∙ ap length_field is ∙ length_field-take 20 bytes (omega arith) four

-- fewer bytes than the record needs are torn, or none
pub rest_cut : (bytes head : List ℕ) (n : ℕ) → head ≡ take 20 bytes → 4 ≤ length bytes → n ≡ length_field head → 16 ≤ n → n < 2 ^ 31 → length bytes < 4 + n
    → IsTorn bytes ⊎ (bytes ≡ [])
rest_cut bytes head n is four read low high less =
    let field = field_shown bytes head n is four read in
    inl (cut four (omega arith) (omega arith) (omega arith))

bad_number : (n : ℕ) → ¬ ((16 ≤ n) × (n < 2 ^ 31)) → (n < 16) ⊎ (2 ^ 31 ≤ n)
bad_number n bad = elim (dec_le 16 n) [
  | yes low ↦ elim (dec_le (2 ^ 31) n) [ yes high ↦ inr high | no less ↦ absurd (bad (low, omega arith)) ]
  | no few ↦ inl (omega arith)
]

-- a bad length in the head is the one of the bytes
pub bad_shown : (bytes head : List ℕ) (n : ℕ) (value : ℤ) → head ≡ take 20 bytes → 4 ≤ length bytes → n ≡ length_field head → n < 2 ^ 32
    → ¬ ((16 ≤ n) × (n < 2 ^ 31)) → value ≡ cast_signed w32 n
    → (4 ≤ length bytes) × ((cast_signed w32 (cast_unsigned w32 value) ≡ signed_field bytes)
    × ((cast_signed w32 (cast_unsigned w32 value) <ℤ pos 16) × (length_field bytes < 2 ^ 32)))
unfolding signed_field length_field
bad_shown bytes head n value is four read fits bad said =
    let signed : cast_signed w32 (cast_unsigned w32 value) ≡ cast_signed w32 n =
    ap (λ (v : ℤ). cast_signed w32 (cast_unsigned w32 v)) said ∙ ap (cast_signed w32) (of_z-to_z w32 n fits) in
    let field = field_shown bytes head n is four read in (
      four,
      (
        signed ∙ ap (cast_signed w32) field,
        (
          subst (λ (v : ℤ). v <ℤ pos 16) (sym signed) (signed_below n (bad_number n bad)),
          subst (λ k. k < 2 ^ 32) field fits,
        ),
      ),
    )

-- a whole record, with its key from the two ids
pub record_shown : (bytes head ids : List ℕ) (n : ℕ) (key : Option EntryKey) → head ≡ take 20 bytes → to_be_bytes w32 n ≡ take 4 head → 16 ≤ n → n < 2 ^ 31
    → 4 + n ≤ length bytes → ids ≡ take 16 (drop 4 head) → key ≡ key_of ids
    → (payload : List ℕ) × (BeginsWith bytes payload × ((4 + n ≡ 4 + length payload) × (key ≡ key_of payload)))
record_shown bytes head ids n key is written low high enough shown found =
    let payload = take n (drop 4 bytes) in
    let size = length-payload bytes n enough in
    let front : to_be_bytes w32 n ≡ take 4 bytes = written ∙ ap (take 4) is ∙ take-take 4 20 bytes (omega arith) in
    let same : ids ≡ take 16 payload =
    shown ∙ ap (λ (x : List ℕ). take 16 (drop 4 x)) is ∙ ap (take 16) (drop-take 4 16 bytes) ∙ take-take 16 16 (drop 4 bytes) (omega arith)
    ∙ sym (take-take 16 n (drop 4 bytes) low) in
    (payload, (begins_with_field bytes n front low high enough, (ap (λ k. 4 + k) (sym size), found ∙ ap key_of same ∙ key_of-take payload (omega arith))))

-- the head has both ids
pub ids_are_long : (head : List ℕ) (left : ℕ) → length head ≡ min 20 left → 20 ≤ left → 16 ≤ length (take 16 (drop 4 head))
ids_are_long head left is enough = omega (arith, length-take 16 (drop 4 head), length-drop 4 head)
