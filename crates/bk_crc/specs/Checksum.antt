-- CRC-32C and CRC-32 of a message of bytes. Read `IsChecksum` first; it is the contract of
-- `checksum_of` and `finish`.
use Rattle.std.specs.Prelude.{◌≡◌, ℕ, ◌-◌, ◌*◌, ◌^◌, List, [], ◌∷◌, length}
use Rattle.bk_crc.specs.declared.polynomial.Polynomial.{Polynomial}
use Rattle.bk_crc.specs.declared.polynomial.Polynomial.TheVariants.{Castagnoli, Ieee}
use Rattle.bk_crc.specs.Division.{plus, IsRemainder}

-- exponents of the polynomial
unfoldable pub powers : Polynomial → List ℕ
powers Castagnoli = 32 ∷ 28 ∷ 27 ∷ 26 ∷ 25 ∷ 23 ∷ 22 ∷ 20 ∷ 19 ∷ 18 ∷ 14 ∷ 13 ∷ 11 ∷ 10 ∷ 9 ∷ 8 ∷ 6 ∷ 0 ∷ []
powers Ieee = 32 ∷ 26 ∷ 23 ∷ 22 ∷ 16 ∷ 12 ∷ 11 ∷ 10 ∷ 8 ∷ 7 ∷ 5 ∷ 4 ∷ 2 ∷ 1 ∷ 0 ∷ []

-- word of 33 bits with these exponents; the first bit is that of x ^ 32
unfoldable pub of_powers : List ℕ → ℕ
of_powers [] = 0
of_powers (power ∷ rest) = plus (2 ^ (32 - power)) (of_powers rest)

-- polynomial as a word
unfoldable pub generator : Polynomial → ℕ
generator polynomial = of_powers (powers polynomial)

-- bits of a message in order of its bytes, of each byte the lowest bit first
unfoldable pub word_of : List ℕ → ℕ
word_of [] = 0
word_of (byte ∷ rest) = plus byte (word_of rest * 2 ^ 8)

-- 32 ones
abbrev pub all_ones : ℕ
all_ones = 2 ^ 32 - 1

-- The message followed by 32 zeros, with the first 32 bits complemented, which adding 32 ones does.
abbrev pub dividend_of : List ℕ → ℕ
dividend_of message = plus (word_of message) all_ones

-- The checksum is the complement of the remainder; its lowest bit is the remainder's first.
abbrev pub IsChecksum : Polynomial → List ℕ → ℕ → Type 0
IsChecksum polynomial message checksum =
    IsRemainder (generator polynomial) (8 * length message) (dividend_of message) (plus checksum all_ones)

-- at most one checksum per message
abbrev pub HasOneChecksum : Type 0
HasOneChecksum =
    (polynomial : Polynomial) (message : List ℕ) (one other : ℕ)
    → IsChecksum polynomial message one → IsChecksum polynomial message other → one ≡ other
