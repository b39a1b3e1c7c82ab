-- One byte per step: a table entry and the rest of the register are eight steps of the division.
use Rattle.std.proofs.Common.{◌≡◌, ℕ, zero, suc, ◌+◌, ◌*◌, ◌/◌, ◌%◌, ◌^◌, ◌<◌, List, [], ◌∷◌, ◌++◌, length, get_or, take, ap, sym, ◌∙◌, arith}
use Rattle.std.specs.Prelude.{bit_xor, bit_and}
use Rattle.std.specs.Int.Bits.{xor_zero_l, xor_shifted}
use Rattle.std.proofs.lemmas.List.{append_assoc, take_more}
use Rattle.std.proofs.lemmas.Nat.{xor_comm, xor_shr, xor_mod, xor_lt, and_mask, shr_split}
use Rattle.bk_crc.specs.declared.polynomial.Polynomial.{Polynomial}
use Rattle.bk_crc.specs.Division.{plus, IsRemainder}
use Rattle.bk_crc.specs.Checksum.{generator, dividend_of}
use Rattle.bk_crc.specs.Table.{IsTable}
use Rattle.bk_crc.proofs.Dividing.{divided, divided_behind}
use Rattle.bk_crc.proofs.Remainders.{divided_low, is_remainder, remainder_is}
use Rattle.bk_crc.proofs.Words.{odd_generator, narrow_generator, more}

-- table entries of consecutive bytes
unfoldable pub entries : ℕ → ℕ → ℕ → List ℕ
entries divisor from zero = []
entries divisor from (suc count) = divided divisor 8 from ∷ entries divisor (suc from) count

entry_at : (divisor from count at : ℕ) → at < count → get_or (entries divisor from count) at 0 ≡ divided divisor 8 (from + at)
unfolding entries
entry_at divisor from zero at low = absurd (omega arith)
entry_at divisor from (suc count) zero low = let same : from ≡ from + 0 = omega arith in ap (λ (z : ℕ). divided divisor 8 z) same
entry_at divisor from (suc count) (suc at) low =
    let same : suc from + at ≡ from + suc at = omega arith in
    entry_at divisor (suc from) count at (omega arith) ∙ ap (λ (z : ℕ). divided divisor 8 z) same

-- these entries are the table of the divisor
pub is_table : (polynomial : Polynomial) (table : List ℕ) → table ≡ entries (generator polynomial) 0 256 → IsTable (generator polynomial) table
is_table polynomial table same byte low =
    let divisor = generator polynomial in
    let from : 0 + byte ≡ byte = omega arith in
    let left : get_or table byte 0 ≡ divided divisor 8 byte =
    ap (λ (z : List ℕ). get_or z byte 0) same ∙ entry_at divisor 0 256 byte low ∙ ap (λ (z : ℕ). divided divisor 8 z) from in
    is_remainder divisor 8 byte (get_or table byte 0) (odd_generator polynomial)
    (rw left (divided_low divisor 8 byte (narrow_generator polynomial) (omega arith))) left

-- the register after one more byte, from the table
pub table_step : (polynomial : Polynomial) (table : List ℕ) (byte register : ℕ) → IsTable (generator polynomial) table → byte < 256
    → bit_xor (get_or table (bit_xor (bit_and register 255) byte) 0) (register / 2 ^ 8) ≡ divided (generator polynomial) 8 (plus byte register)
table_step polynomial table byte register entry low =
    let divisor = generator polynomial in
    let first : ℕ = bit_xor (bit_and register 255) byte in
    let sum : ℕ = bit_xor byte register in
    let under : register % 2 ^ 8 < 2 ^ 8 = omega arith in
    let first_low : first < 2 ^ 8 = xor_lt 8 (bit_and register 255) byte (rw (and_mask register 8) under) low in
    let here = remainder_is (entry first first_low) (odd_generator polynomial) in
    let byte_under : byte % 2 ^ 8 ≡ byte = omega arith in
    let byte_over : byte / 2 ^ 8 ≡ 0 = omega arith in
    let lower : sum % 2 ^ 8 ≡ first =
    xor_mod byte register 8 ∙ ap (λ (z : ℕ). bit_xor z (register % 2 ^ 8)) byte_under ∙ xor_comm byte (register % 2 ^ 8)
    ∙ ap (λ (z : ℕ). bit_xor z byte) (sym (and_mask register 8)) in
    let upper : sum / 2 ^ 8 ≡ register / 2 ^ 8 =
    xor_shr byte register 8 ∙ ap (λ (z : ℕ). bit_xor z (register / 2 ^ 8)) byte_over ∙ xor_zero_l (register / 2 ^ 8) in
    let parts : sum ≡ bit_xor (register / 2 ^ 8 * 2 ^ 8) first =
    sym (shr_split sum 8) ∙ ap (λ (z : ℕ). z * 2 ^ 8 + sum % 2 ^ 8) upper ∙ ap (λ (z : ℕ). register / 2 ^ 8 * 2 ^ 8 + z) lower
    ∙ sym (xor_shifted (register / 2 ^ 8) 8 first first_low) in
    sym (ap (λ (z : ℕ). divided divisor 8 z) parts ∙ divided_behind divisor 8 (register / 2 ^ 8) first
    ∙ ap (λ (z : ℕ). bit_xor (register / 2 ^ 8) z) (sym here)
    ∙ xor_comm (register / 2 ^ 8) (get_or table first 0))

-- the remainder of a message with one more byte, from the table
pub table_more : (polynomial : Polynomial) (table message : List ℕ) (byte register : ℕ) → IsTable (generator polynomial) table → byte < 256
    → IsRemainder (generator polynomial) (8 * length message) (dividend_of message) register
    → IsRemainder (generator polynomial) (8 * length (message ++ byte ∷ [])) (dividend_of (message ++ byte ∷ []))
    (bit_xor (get_or table (bit_xor (bit_and register 255) byte) 0) (register / 2 ^ 8))
table_more polynomial table message byte register entry low before =
    let step = table_step polynomial table byte register entry low in
    let sum : bit_xor byte register < 2 ^ 32 = xor_lt 32 byte register (omega arith) before.short in
    more polynomial message byte register (bit_xor (get_or table (bit_xor (bit_and register 255) byte) 0) (register / 2 ^ 8)) before
    (rw step (divided_low (generator polynomial) 8 (bit_xor byte register) (narrow_generator polynomial) sum)) step

-- a message with one more byte of a list
pub message_more : (message bytes : List ℕ) (at : ℕ) → at < length bytes → (message ++ take at bytes) ++ get_or bytes at 0 ∷ [] ≡ message ++ take (at + 1) bytes
message_more message bytes at low =
    append_assoc message (take at bytes) (get_or bytes at 0 ∷ []) ∙ ap (λ (z : List ℕ). message ++ z) (sym (take_more bytes at 0 low))
