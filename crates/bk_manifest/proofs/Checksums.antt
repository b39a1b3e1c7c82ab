-- CRC-32C as a function is the checksum that `bk_crc` names.
use Rattle.std.proofs.Common.{◌≡◌, ℕ, zero, suc, ◌*◌, ◌%◌, ◌^◌, ◌<◌, List, length, refl, ap, sym, ◌∙◌, arith}
use Rattle.std.specs.Prelude.{bit_xor}
use Rattle.std.proofs.lemmas.Nat.{xor_comm, xor_lt}
use Rattle.bk_crc.specs.declared.polynomial.Polynomial.TheVariants.{Castagnoli}
use Rattle.bk_crc.specs.Checksum.{generator, all_ones, dividend_of}
use Rattle.bk_crc.proofs.Dividing.{halved, divided, xor_twice}
use Rattle.bk_crc.proofs.Remainders.{remainder_is}
use Rattle.bk_crc.proofs.Words.{odd_generator}
use Rattle.bk_manifest.specs.Checksum.{left_after, crc32c, IsOneChecksum}

-- the steps are those of the division of `bk_crc`
same_left : (steps word : ℕ) → divided (generator Castagnoli) steps word ≡ left_after steps word
unfolding left_after divided halved
same_left zero word = refl
same_left (suc steps) word = same_left steps _

pub one_checksum : IsOneChecksum
unfolding crc32c
one_checksum bytes checksum is =
    let left : bit_xor checksum all_ones ≡ left_after (8 * length bytes) (dividend_of bytes) =
    remainder_is is (odd_generator Castagnoli) ∙ same_left (8 * length bytes) (dividend_of bytes) in
    let back : bit_xor all_ones (bit_xor checksum all_ones) ≡ checksum =
    ap (λ (z : ℕ). bit_xor all_ones z) (xor_comm checksum all_ones) ∙ xor_twice all_ones checksum in
    let low : bit_xor all_ones (bit_xor checksum all_ones) < 2 ^ 32 = xor_lt 32 all_ones (bit_xor checksum all_ones) (omega arith) is.short in
    let small : checksum ≡ checksum % 2 ^ 32 = omega (arith, low, back) in
    small ∙ ap (λ (z : ℕ). z % 2 ^ 32) (sym back ∙ ap (λ (z : ℕ). bit_xor all_ones z) left)

-- a checksum has 32 bits
pub crc32c_low : (bytes : List ℕ) → crc32c bytes < 2 ^ 32
unfolding crc32c
crc32c_low bytes = omega arith
