-- The fields of a header as bytes.
use Rattle.std.proofs.Common.{◌≡◌, ℕ, ◌+◌, ◌^◌, ◌<◌, ◌≤◌, ℤ, pos, List, ◌++◌, length, take, drop, refl, sym, ap, subst, ◌∙◌, append_assoc, arith}
use Rattle.std.specs.Int.{w32, w64, to_be_bytes, from_be_bytes, cast_unsigned, cast_signed}
use Rattle.std.proofs.Common.{Bool, true, eqb}
use Rattle.std.specs.List.{starts_with}
use Rattle.std.proofs.lemmas.Bool.Decides.{Decides-eqb}
use Rattle.std.proofs.lemmas.List.{length-drop, take-append-drop, drop-drop, take_all}
use Rattle.std.proofs.lemmas.Slice.Eq.{slice_eq-Decides}
use Rattle.byteorder.specs.Endian.{big_number}
use borrow.Rule.Slice.PartMut.{mid_of}
use Rattle.std.proofs.lemmas.Int.{of_z-to_z}
use Rattle.bk_record.proofs.Records.{bytes_drop}
use Rattle.bk_head.specs.Header.{IsHeader, SaysOfMap, magic, head_of, patch_of, version_field}
use Rattle.bk_record.specs.Spelling.{IsBytes}
use Rattle.bk_head.proofs.Bytes.{big_number-4, big_number-8, front_4, front_8, below_4, below_8}

-- a suffix in two parts
cut : (n m : ℕ) (bytes : List ℕ) → drop n bytes ≡ take m (drop n bytes) ++ drop (n + m) bytes
cut n m bytes = sym (take-append-drop m (drop n bytes)) ∙ ap (λ (x : List ℕ). take m (drop n bytes) ++ x) (drop-drop m n bytes)

joined : (bytes m v o c : List ℕ) → take 4 bytes ≡ m → take 4 (drop 4 bytes) ≡ v → take 8 (drop 8 bytes) ≡ o → take 4 (drop 16 bytes) ≡ c
    → bytes ≡ (m ++ v ++ (o ++ c)) ++ drop 20 bytes
joined bytes m v o c is-m is-v is-o is-c =
    let whole : bytes ≡ m ++ (v ++ (o ++ (c ++ drop 20 bytes))) =
    cut 0 4 bytes ∙ rw (is-m, cut 4 4 bytes, is-v, cut 8 8 bytes, is-o, cut 16 4 bytes, is-c) refl in
    whole ∙ simp append_assoc

pub head_is : (bytes : List ℕ) → IsBytes bytes → length bytes ≡ 1024 → take 4 bytes ≡ magic → version_field bytes ≡ 1
    → bytes ≡ head_of (from_be_bytes w64 (drop 8 bytes)) (from_be_bytes w32 (drop 16 bytes)) ++ drop 20 bytes
unfolding head_of patch_of version_field
head_is bytes each long magic_is version_is =
    let version : take 4 (drop 4 bytes) ≡ to_be_bytes w32 1 = sym
    (front_4 (drop 4 bytes) (bytes_drop 4 bytes each) (omega (arith, length-drop 4 bytes))) ∙ ap (to_be_bytes w32) version_is in
    let offset : take 8 (drop 8 bytes) ≡ to_be_bytes w64 (from_be_bytes w64 (drop 8 bytes)) = sym
    (front_8 (drop 8 bytes) (bytes_drop 8 bytes each) (omega (arith, length-drop 8 bytes))) in
    let count : take 4 (drop 16 bytes) ≡ to_be_bytes w32 (from_be_bytes w32 (drop 16 bytes)) = sym
    (front_4 (drop 16 bytes) (bytes_drop 16 bytes each) (omega (arith, length-drop 16 bytes))) in
    joined bytes magic (to_be_bytes w32 1) (to_be_bytes w64 (from_be_bytes w64 (drop 8 bytes)))
    (to_be_bytes w32 (from_be_bytes w32 (drop 16 bytes))) magic_is version offset count

pub magic_is : (bytes : List ℕ) (r : Bool) → r ≡ starts_with eqb bytes magic → r ≡ true → take 4 bytes ≡ magic
magic_is bytes r is starts = sym ((slice_eq-Decides Decides-eqb magic (take 4 bytes) r is).0 starts)

-- bytes of a header from a position
pub behind : (at length-behind : ℕ) (bytes : List ℕ) → length bytes ≤ at + length-behind → mid_of at length-behind bytes ≡ drop at bytes
behind at n bytes long = take_all n (drop at bytes) (omega (arith, length-drop at bytes))

-- the numbers that the code reads are those at their positions
pub version_read : (bytes : List ℕ) (version : ℕ) → length bytes ≡ 1024 → version ≡ big_number 4 (mid_of 4 1020 bytes) → version ≡ version_field bytes
unfolding version_field
version_read bytes version long is = is ∙ ap (big_number 4) (behind 4 1020 bytes (omega arith)) ∙ big_number-4 (drop 4 bytes)

-- a signed number converts back to the bits that it was made of
bits_64 : (n : ℕ) (z : ℤ) → n < 2 ^ 64 → z ≡ cast_signed w64 n → cast_unsigned w64 (cast_signed w64 (cast_unsigned w64 z)) ≡ n
bits_64 n z fits is =
    let bits : cast_unsigned w64 z ≡ n = ap (cast_unsigned w64) is ∙ of_z-to_z w64 n fits in
    ap (λ (k : ℕ). cast_unsigned w64 (cast_signed w64 k)) bits ∙ of_z-to_z w64 n fits

bits_32 : (n : ℕ) (z : ℤ) → n < 2 ^ 32 → z ≡ cast_signed w32 n → cast_unsigned w32 (cast_signed w32 (cast_unsigned w32 z)) ≡ n
bits_32 n z fits is =
    let bits : cast_unsigned w32 z ≡ n = ap (cast_unsigned w32) is ∙ of_z-to_z w32 n fits in
    ap (λ (k : ℕ). cast_unsigned w32 (cast_signed w32 k)) bits ∙ of_z-to_z w32 n fits

pub header_read : (bytes : List ℕ) (version : ℕ) (offset count : ℤ) → IsBytes bytes → length bytes ≡ 1024 → take 4 bytes ≡ magic → version
    ≡ version_field bytes → version ≡ 1
    → offset ≡ cast_signed w64 (big_number 8 (mid_of 8 1016 bytes)) → count ≡ cast_signed w32 (big_number 4 (mid_of 16 1008 bytes))
    → IsHeader bytes (record {
      version = version;
      map_offset = cast_signed w64 (cast_unsigned w64 offset);
      count = cast_signed w32
          (cast_unsigned w32 count);
    })
unfolding head_of
header_read bytes version offset count each long is-magic is-version one is-offset is-count =
    let n : ℕ = from_be_bytes w64 (drop 8 bytes) in
    let m : ℕ = from_be_bytes w32 (drop 16 bytes) in
    let at-offset : big_number 8 (mid_of 8 1016 bytes) ≡ n = ap (big_number 8) (behind 8 1016 bytes (omega arith)) ∙ big_number-8 (drop 8 bytes) in
    let at-count : big_number 4 (mid_of 16 1008 bytes) ≡ m = ap (big_number 4) (behind 16 1008 bytes (omega arith)) ∙ big_number-4 (drop 16 bytes) in
    let low-offset = bits_64 n offset (below_8 (drop 8 bytes) (bytes_drop 8 bytes each)) (is-offset ∙ ap (cast_signed w64) at-offset) in
    let low-count = bits_32 m count (below_4 (drop 16 bytes) (bytes_drop 16 bytes each)) (is-count ∙ ap (cast_signed w32) at-count) in
    let fields = patch_of (cast_unsigned w64 (cast_signed w64 (cast_unsigned w64 offset))) (cast_unsigned w32 (cast_signed w32 (cast_unsigned w32 count))) in
    record {
      fields = fields;
      rest = drop 20 bytes;
      bytes_are = head_is bytes each long is-magic (sym is-version ∙ one)
          ∙ ap (λ (h : List ℕ). h ++ drop 20 bytes) (ap (λ (k : ℕ). head_of k m) (sym low-offset)
          ∙ ap (λ (k : ℕ). head_of (cast_unsigned w64 (cast_signed w64 (cast_unsigned w64 offset))) k) (sym low-count))
          ∙ ap (λ (v : ℕ). magic ++ to_be_bytes w32 v ++ fields ++ drop 20 bytes) (sym one);
      says = subst
          (λ (v : ℕ). SaysOfMap v fields (cast_signed w64 (cast_unsigned w64 offset)) (cast_signed w32 (cast_unsigned w32 count))) (sym one) refl;
    }

-- bytes with the magic and version 0 are a header, whatever the other bytes are
pub old_header_read : (bytes : List ℕ) (version : ℕ) → IsBytes bytes → length bytes ≡ 1024 → take 4 bytes ≡ magic → version ≡ version_field bytes
    → version ≡ 0 → IsHeader bytes (record { version = version; map_offset = pos 0; count = pos 0 })
unfolding version_field
old_header_read bytes version each long is-magic is-version none =
    let fields = take 8 (drop 8 bytes) ++ take 4 (drop 16 bytes) in
    let version_is : take 4 (drop 4 bytes) ≡ to_be_bytes w32 0 = sym
    (front_4 (drop 4 bytes) (bytes_drop 4 bytes each) (omega (arith, length-drop 4 bytes))) ∙ ap (to_be_bytes w32) (sym is-version ∙ none) in
    record {
      fields = fields;
      rest = drop 20 bytes;
      bytes_are = joined bytes magic (to_be_bytes w32 0) (take 8 (drop 8 bytes)) (take 4 (drop 16 bytes)) is-magic version_is refl refl
          ∙ ap (λ (v : ℕ). magic ++ to_be_bytes w32 v ++ fields ++ drop 20 bytes) (sym none);
      says = subst (λ (v : ℕ). SaysOfMap v fields (pos 0) (pos 0)) (sym none) (refl, refl);
    }
