-- Division of polynomials over GF(2). A polynomial is a word of bits, written as a number whose bit
-- i is the i-th bit of the word. The first bit is the coefficient of the highest power: in a word
-- of n bits, bit i is that of x ^ (n - 1 - i).
use Rattle.std.specs.Prelude.{◌≡◌, ℕ, ◌*◌, ◌^◌, ◌<◌, Bool, List, [], ◌∷◌, length, bit_xor, if◌then◌else◌}

-- sum of two polynomials of one word length: bitwise, without carry
abbrev pub plus : ℕ → ℕ → ℕ
plus one other = bit_xor one other

-- product of `factor` and the polynomial with these coefficients, highest power first
unfoldable pub product : ℕ → List Bool → ℕ
product factor [] = 0
product factor (coefficient ∷ rest) = plus (if coefficient then factor else 0) (product factor rest * 2)

-- A dividend of `places + 32` bits is the product of a divisor of degree 32 and a quotient of
-- `places` bits, plus a remainder of 32 bits. The remainder is in the last bits of the word.
pub record IsRemainder (divisor places dividend remainder : ℕ) : Type 0 where
  pub quotient : List Bool
  pub fills : length quotient ≡ places
  pub divides : dividend ≡ plus (product divisor quotient) (remainder * 2 ^ places)
  pub short : remainder < 2 ^ 32
