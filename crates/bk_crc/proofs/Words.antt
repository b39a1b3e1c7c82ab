-- The bits of a message, and the effect of one more byte at its end.
use Rattle.std.proofs.Common.{◌≡◌, ℕ, suc, ◌+◌, ◌*◌, ◌%◌, ◌^◌, ◌<◌, List, [], ◌∷◌, ◌++◌, length, refl, ap, sym, ◌∙◌, arith, pow-add}
use Rattle.std.specs.Prelude.{bit_xor}
use Rattle.std.specs.Int.Bits.{xor_assoc}
use Rattle.std.proofs.Math.Nat.{mul-one, mul_assoc}
use Rattle.std.proofs.lemmas.List.{length-append}
use Rattle.std.proofs.lemmas.Nat.{xor_comm}
use Rattle.bk_crc.specs.declared.polynomial.Polynomial.{Polynomial}
use Rattle.bk_crc.specs.declared.polynomial.Polynomial.TheVariants.{Castagnoli, Ieee}
use Rattle.bk_crc.specs.Division.{plus, IsRemainder}
use Rattle.bk_crc.specs.Checksum.{powers, of_powers, generator, word_of, all_ones, dividend_of, HasOneChecksum}
use Rattle.bk_crc.proofs.Dividing.{divided, divided_behind, divided_twice, xor_twice, xor_swap}
use Rattle.bk_crc.proofs.Remainders.{xor_moved, is_remainder, remainder_is}

-- both polynomials have the constant term, which is bit 0
pub odd_generator : (polynomial : Polynomial) → generator polynomial % 2 ≡ 1
unfolding generator of_powers powers
odd_generator Castagnoli = refl
odd_generator Ieee = refl

-- their degree is 32
pub narrow_generator : (polynomial : Polynomial) → generator polynomial < 2 ^ 33
unfolding generator of_powers powers
narrow_generator Castagnoli = omega arith
narrow_generator Ieee = omega arith

-- word of a message with one more byte
word_more : (message : List ℕ) (byte : ℕ) → word_of (message ++ byte ∷ []) ≡ plus (byte * 2 ^ (8 * length message)) (word_of message)
unfolding word_of
word_more [] byte = ap (λ (z : ℕ). bit_xor z 0) (sym (mul-one byte))
word_more (first ∷ rest) byte =
    let places : ℕ = 8 * length rest in
    let moved : byte * 2 ^ places * 2 ^ 8 ≡ byte * 2 ^ (8 * suc (length rest)) =
    let more : places + 8 ≡ 8 * suc (length rest) = omega arith in
    mul_assoc byte (2 ^ places) (2 ^ 8) ∙ ap (λ (z : ℕ). byte * z) (sym (pow-add 2 places 8) ∙ ap (λ (z : ℕ). 2 ^ z) more) in
    ap (λ (z : ℕ). bit_xor first (z * 2 ^ 8)) (word_more rest byte)
    ∙ ap (λ (z : ℕ). bit_xor first z) (xor_moved 8 (byte * 2 ^ places) (word_of rest))
    ∙ ap (λ (z : ℕ). bit_xor first (bit_xor z (word_of rest * 2 ^ 8))) moved
    ∙ xor_swap first (byte * 2 ^ (8 * suc (length rest))) (word_of rest * 2 ^ 8)

-- result of the division for a message with one more byte
left_more : (divisor : ℕ) (message : List ℕ) (byte : ℕ)
    → divided divisor (8 * length (message ++ byte ∷ [])) (dividend_of (message ++ byte ∷ []))
    ≡ divided divisor 8 (plus byte (divided divisor (8 * length message) (dividend_of message)))
left_more divisor message byte =
    let places : ℕ = 8 * length message in
    let longer : 8 * length (message ++ byte ∷ []) ≡ places + 8 = rw (length-append message (byte ∷ [])) (omega arith) in
    let dividend : dividend_of (message ++ byte ∷ []) ≡ bit_xor (byte * 2 ^ places) (dividend_of message) =
    ap (λ (z : ℕ). bit_xor z all_ones) (word_more message byte) ∙ xor_assoc (byte * 2 ^ places) (word_of message) all_ones in
    ap (λ (z : ℕ). divided divisor z (dividend_of (message ++ byte ∷ []))) longer
    ∙ ap (λ (z : ℕ). divided divisor (places + 8) z) dividend
    ∙ divided_twice divisor places 8 (bit_xor (byte * 2 ^ places) (dividend_of message))
    ∙ ap (λ (z : ℕ). divided divisor 8 z) (divided_behind divisor places byte (dividend_of message))

-- remainder of a message with one more byte
pub more : (polynomial : Polynomial) (message : List ℕ) (byte register next : ℕ)
    → IsRemainder (generator polynomial) (8 * length message) (dividend_of message) register
    → next < 2 ^ 32
    → next ≡ divided (generator polynomial) 8 (plus byte register)
    → IsRemainder (generator polynomial) (8 * length (message ++ byte ∷ [])) (dividend_of (message ++ byte ∷ [])) next
more polynomial message byte register next before low is =
    let same = remainder_is before (odd_generator polynomial) in
    is_remainder (generator polynomial) (8 * length (message ++ byte ∷ [])) (dividend_of (message ++ byte ∷ [])) next (odd_generator polynomial) low
    (is ∙ ap (λ (z : ℕ). divided (generator polynomial) 8 (bit_xor byte z)) same ∙ sym (left_more (generator polynomial) message byte))

-- two checksums of the same bytes are equal
pub one_of : HasOneChecksum
one_of polynomial message one other is also =
    let same : bit_xor one all_ones ≡ bit_xor other all_ones = remainder_is is (odd_generator polynomial) ∙ sym (remainder_is also (odd_generator polynomial)) in
    let back = λ (z : ℕ). ap (λ (y : ℕ). bit_xor all_ones y) (xor_comm z all_ones) ∙ xor_twice all_ones z in
    sym (back one) ∙ ap (λ (z : ℕ). bit_xor all_ones z) same ∙ back other
