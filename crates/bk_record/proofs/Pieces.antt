-- Which piece is at a position: `left` are the bytes as the code cuts them, `here` as the
-- definition does.
use Rattle.std.proofs.Common.{◌≡◌, ◌⊎◌, inl, inr, ℕ, suc, ◌+◌, ◌-◌, ◌<◌, ◌≤◌, ◌^◌, ℤ, pos, negsuc, ◌<ℤ◌, cond, List, ◌++◌, length, take, drop, get_or, Fits}
use Rattle.std.proofs.Common.{w8, Bool, true, false, Some, None, IsSome, IsNone, nat_lt, Ok, Err, refl, sym, ap, ◌∙◌, subst, arith, length-drop}
use Rattle.std.proofs.lemmas.List.{length-take, take_rest}
use Rattle.std.proofs.lemmas.Int.{ints, of_z-to_z, to_z_pos}
use Rattle.std.proofs.lemmas.Bool.{ltb-true, le-ltb}
use Rattle.std.specs.Int.{w32, cast_signed, cast_unsigned, to_be_bytes}
use Rattle.std.specs.Option.{ok_or}
use Rattle.byteorder.specs.Endian.{big_number}
use Rattle.bk_record.specs.Key.{EntryKey}
use Rattle.bk_record.specs.Record.{record_of, length_field, signed_field, key_of, read_key}
use Rattle.bk_record.specs.Body.{IsTorn}
use Rattle.bk_record.specs.Body.IsTorn.{short, cut}
use Rattle.bk_record.specs.Piece.{BeginsWith}
use Rattle.bk_record.specs.declared.fault.RecordFault.{RecordFault}
use Rattle.bk_record.specs.declared.fault.RecordFault.TheVariants.{Short, Negative}
use Rattle.bk_record.proofs.Records.{IsBytes, bytes_drop, Starts, record_in_front, split_at}

-- the number that the code reads is the length field
field_read : (left here : List ℕ) (n : ℕ) → left ≡ here → n ≡ big_number 4 left → n ≡ length_field here
unfolding length_field
field_read left here n is read =
    let number : List ℕ → ℕ = λ b. big_number 4 b in
    let same : big_number 4 left ≡ big_number 4 here = ap number is in
    omega arith

-- a length that is below 16 or negative is below 16 as a signed number
pub signed_below : (n : ℕ) → (n < 16) ⊎ (2 ^ 31 ≤ n) → cast_signed w32 n <ℤ pos 16
signed_below n (inl few) = subst (λ (v : ℤ). v <ℤ pos 16) (sym (to_z_pos w32 n (omega arith))) (omega (arith, ints))
signed_below n (inr high) = subst (λ (v : ℤ). v <ℤ pos 16) (sym (ap (λ (b : Bool). cond b (pos n) (negsuc (2 ^ 32 - suc n))) (le-ltb _ _ high)))
    (record { lt = tt })

pub short_here : (left here : List ℕ) → left ≡ here → 0 < length left → length left < 4 → IsTorn here × (length left ≡ length here)
short_here left here is some less = let same : length left ≡ length here = ap length is in (short (omega arith) (omega arith), same)

pub cut_here : (left here : List ℕ) (n : ℕ) → left ≡ here → n ≡ big_number 4 left → 4 ≤ length left → 16 ≤ n → n ≤ 2147483647 → length left - 4 < n
    → IsTorn here × (length left ≡ length here)
cut_here left here n is read four least most less =
    let same : length left ≡ length here = ap length is in
    let field = field_read left here n is read in
    (cut (omega arith) (omega arith) (omega arith) (omega arith), same)

pub bad_here : (left here : List ℕ) (at n : ℕ) (z : ℤ) → left ≡ here → n ≡ big_number 4 left → 4 ≤ length left → n < 2 ^ 32 → (n < 16) ⊎ (2 ^ 31 ≤ n)
    → z ≡ cast_signed w32 n
    → (at ≡ at) × ((4 ≤ length here) × ((cast_signed w32 (cast_unsigned w32 z) ≡ signed_field here) × (cast_signed w32 (cast_unsigned w32 z) <ℤ pos 16)))
unfolding signed_field length_field
bad_here left here at n z is read four fits low value =
    let same : length left ≡ length here = ap length is in
    let signed : cast_signed w32 (cast_unsigned w32 z) ≡ cast_signed w32 n =
    ap (λ (v : ℤ). cast_signed w32 (cast_unsigned w32 v)) value ∙ ap (cast_signed w32) (of_z-to_z w32 n fits) in
    (refl, (omega arith, (signed ∙ ap (cast_signed w32) (field_read left here n is read), subst (λ (v : ℤ). v <ℤ pos 16) (sym signed) (signed_below n low))))

begins_here : (left here : List ℕ) (n : ℕ) → left ≡ here → IsBytes here → n ≡ big_number 4 left → 4 ≤ length left → 16 ≤ n → n ≤ 2147483647
    → n ≤ length left - 4
    → BeginsWith here (take (4 + n - 4) (drop 4 left)) × (n ≡ length (take (4 + n - 4) (drop 4 left)))
begins_here left here n is each read four least most enough =
    let same : length left ≡ length here = ap length is in
    let field = field_read left here n is read in
    let starts : Starts here = record { field = omega arith; least = omega arith; most = omega arith; whole = omega arith } in
    let count : 4 + n - 4 ≡ length_field here = omega arith in
    let cut : take (4 + n - 4) (drop 4 left) ≡ take (length_field here) (drop 4 here) =
    ap (λ (k : ℕ). take k (drop 4 left)) count ∙ ap (λ (l : List ℕ). take (length_field here) (drop 4 l)) is in
    let size : length (take (length_field here) (drop 4 here)) ≡ length_field here =
    omega (arith, length-take (length_field here) (drop 4 here), length-drop 4 here) in
    let long : n ≡ length (take (4 + n - 4) (drop 4 left)) = field ∙ sym size ∙ ap length (sym cut) in
    let front = ap (λ (p : List ℕ). record_of p ++ drop (4 + length_field here) here) (sym cut) in
    (record { legal = (omega arith, omega arith); behind = drop (4 + length_field here) here; is = record_in_front here each starts ∙ front }, long)

pub begins_at : (bytes : List ℕ) (at n : ℕ) → ((i : ℕ) → Fits w8 (get_or bytes i 0)) → let left = take (length bytes - at) (drop at bytes) in
    n ≡ big_number 4 left → 4 ≤ length left → 16 ≤ n → n ≤ 2147483647 → n ≤ length left - 4
    → BeginsWith (drop at bytes) (take (4 + n - 4) (drop 4 left)) × (n ≡ length (take (4 + n - 4) (drop 4 left)))
begins_at bytes at n each = begins_here _ _ n (take_rest bytes at) (bytes_drop at bytes (λ i. omega (arith, each i)))

-- number of bytes taken after the length field
pub length-payload : (bytes : List ℕ) (n : ℕ) → 4 + n ≤ length bytes → length (take n (drop 4 bytes)) ≡ n
length-payload bytes n enough = omega (arith, length-take n (drop 4 bytes), length-drop 4 bytes)

-- the bytes begin with the record of a payload, from their length field and their number
pub begins_with_field : (bytes : List ℕ) (n : ℕ) → to_be_bytes w32 n ≡ take 4 bytes → 16 ≤ n → n < 2 ^ 31 → 4 + n ≤ length bytes
    → BeginsWith bytes (take n (drop 4 bytes))
unfolding record_of
begins_with_field bytes n written low high enough =
    let size = length-payload bytes n enough in
    let field : to_be_bytes w32 (length (take n (drop 4 bytes))) ≡ take 4 bytes = ap (to_be_bytes w32) size ∙ written in
    record {
      legal = (omega arith, omega arith);
      behind = drop (4 + n) bytes;
      is = sym (ap (λ (x : List ℕ). (x ++ take n (drop 4 bytes)) ++ drop (4 + n) bytes) field ∙ split_at bytes n);
    }

-- a payload whose key was returned has a key
pub some_key : (payload : List ℕ) (key : EntryKey) → Ok key ≡ read_key payload → IsSome (key_of payload)
unfolding read_key
some_key payload key is =
    elim (nat_lt (length payload) 16) as (λ b. Ok key ≡ cond b (Err (Short (length payload))) (ok_or (key_of payload) Negative) → IsSome (key_of payload)) [
      | true ↦ λ e. cc
      | false ↦ elim (key_of payload) as (λ o. Ok key ≡ ok_or o Negative → IsSome o) [ None ↦ λ e. cc | Some k ↦ λ e. refl ]
    ] is

pub none_key : (payload : List ℕ) (fault : RecordFault) → Err fault ≡ read_key payload → 16 ≤ length payload → IsNone (key_of payload)
unfolding read_key
none_key payload fault is enough =
    elim (nat_lt (length payload) 16) as (λ b. nat_lt (length payload) 16 ≡ b → Err fault
    ≡ cond b (Err (Short (length payload))) (ok_or (key_of payload) Negative) → IsNone (key_of payload)) [
      | true ↦ λ few e. absurd (omega (arith, enough, ltb-true _ _ few))
      | false ↦ λ _. elim (key_of payload) as (λ o. Err fault ≡ ok_or o Negative → IsNone o) [ None ↦ λ e. refl | Some k ↦ λ e. cc ]
    ] refl is
