-- Long division, one bit per step.
use Rattle.std.proofs.Common.{◌≡◌, ℕ, zero, suc, ◌+◌, ◌*◌, ◌/◌, ◌%◌, ◌^◌, Bool, ap, sym, ◌∙◌, arith}
use Rattle.std.specs.Prelude.{eqb, bit_xor, if◌then◌else◌}
use Rattle.std.specs.Int.Bits.{xor_assoc, xor_zero_l, xor_self}
use Rattle.std.proofs.Math.Nat.{pow-suc, suc-add, zero-add, mul_assoc, mul-one}
use Rattle.std.proofs.lemmas.Nat.{xor_comm, xor_shr, xor_mod}

-- product of a divisor and a coefficient
abbrev pub taken : ℕ → Bool → ℕ
taken divisor bit = if bit then divisor else 0

-- whether the first bit is set
abbrev pub first_bit : ℕ → Bool
first_bit word = eqb (word % 2) 1

-- one step of the division: subtracts the divisor if the first bit is set, and drops that bit
unfoldable pub halved : ℕ → ℕ → ℕ
halved divisor word = bit_xor (taken divisor (first_bit word)) word / 2

-- the word after this number of steps
unfoldable pub divided : ℕ → ℕ → ℕ → ℕ
divided divisor zero word = word
divided divisor (suc places) word = divided divisor places (halved divisor word)

-- adding a polynomial twice
pub xor_twice : (a b : ℕ) → bit_xor a (bit_xor a b) ≡ b
xor_twice a b = rw (← xor_assoc a a b, xor_self a) (xor_zero_l b)

-- exchanging two terms of a sum of three
pub xor_swap : (a b c : ℕ) → bit_xor a (bit_xor b c) ≡ bit_xor b (bit_xor a c)
xor_swap a b c = sym (xor_assoc a b c) ∙ ap (λ (z : ℕ). bit_xor z c) (xor_comm a b) ∙ xor_assoc b a c

pub double_half : (a : ℕ) → a * 2 / 2 ≡ a
double_half a = omega arith

pub even_half : (a b : ℕ) → bit_xor (a * 2) b / 2 ≡ bit_xor a (b / 2)
even_half a b = xor_shr (a * 2) b 1 ∙ ap (λ (z : ℕ). bit_xor z (b / 2)) (double_half a)

pub even_first : (a b : ℕ) → bit_xor (a * 2) b % 2 ≡ b % 2
even_first a b =
    let none : a * 2 % 2 ≡ 0 = omega arith in
    let below : b % 2 % 2 ≡ b % 2 = omega arith in
    xor_mod (a * 2) b 1 ∙ ap (λ (z : ℕ). bit_xor z (b % 2)) none ∙ xor_zero_l (b % 2)

-- one more power
pub shifted : (a places : ℕ) → a * 2 ^ suc places ≡ a * 2 ^ places * 2
shifted a places = ap (λ (z : ℕ). a * z) (pow-suc 2 places) ∙ sym (mul_assoc a (2 ^ places) 2)

-- the bits after the first pass through a step unchanged
pub halved_behind : (divisor a word : ℕ) → halved divisor (bit_xor (a * 2) word) ≡ bit_xor a (halved divisor word)
unfolding halved
halved_behind divisor a word =
    rw (even_first a word, xor_swap (taken divisor (first_bit word)) (a * 2) word) (even_half a (bit_xor (taken divisor (first_bit word)) word))

-- the same for several steps
pub divided_behind : (divisor places a word : ℕ) → divided divisor places (bit_xor (a * 2 ^ places) word) ≡ bit_xor a (divided divisor places word)
unfolding divided
divided_behind divisor zero a word = ap (λ (z : ℕ). bit_xor z word) (mul-one a)
divided_behind divisor (suc places) a word =
    rw (shifted a places, halved_behind divisor (a * 2 ^ places) word) (divided_behind divisor places a (halved divisor word))

-- steps in two parts
pub divided_twice : (divisor first second word : ℕ) → divided divisor (first + second) word ≡ divided divisor second (divided divisor first word)
unfolding divided
divided_twice divisor zero second word = ap (λ (z : ℕ). divided divisor z word) (zero-add second)
divided_twice divisor (suc first) second word = rw (suc-add first second) (divided_twice divisor first second (halved divisor word))
