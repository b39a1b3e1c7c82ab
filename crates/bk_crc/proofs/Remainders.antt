-- Long division gives the remainder, and there is only one.
use Rattle.std.proofs.Common.{◌≡◌, ℕ, zero, suc, ◌+◌, ◌*◌, ◌/◌, ◌%◌, ◌^◌, ◌<◌, Bool, true, false, List, [], ◌∷◌, length, refl, ap, sym, ◌∙◌, arith, inl, inr}
use Rattle.std.specs.Prelude.{bit_xor}
use Rattle.std.specs.Int.Bits.{xor_assoc, xor_zero_l}
use Rattle.std.proofs.Math.Nat.{mul-one}
use Rattle.std.proofs.Math.Pow.{pow_pos}
use Rattle.std.proofs.lemmas.Nat.{xor_comm, xor_lt, xor_mod, xor_block}
use Rattle.std.proofs.lemmas.Bool.Decides.{eqb_tells}
use Rattle.bk_crc.specs.Division.{plus, product, IsRemainder}
use Rattle.bk_crc.proofs.Dividing.{taken, first_bit, halved, divided, xor_twice, double_half, even_first, shifted}

-- coefficients of the quotient
unfoldable pub quotient_of : ℕ → ℕ → ℕ → List Bool
quotient_of divisor zero word = []
quotient_of divisor (suc places) word = first_bit word ∷ quotient_of divisor places (halved divisor word)

pub quotient_fills : (divisor places word : ℕ) → length (quotient_of divisor places word) ≡ places
unfolding quotient_of
quotient_fills divisor zero word = refl
quotient_fills divisor (suc places) word = ap suc (quotient_fills divisor places (halved divisor word))

-- a sum, shifted
pub xor_moved : (places a b : ℕ) → bit_xor a b * 2 ^ places ≡ bit_xor (a * 2 ^ places) (b * 2 ^ places)
xor_moved places a b =
    let one : a * 2 ^ places ≡ a * 2 ^ places + 0 = omega arith in
    let other : b * 2 ^ places ≡ b * 2 ^ places + 0 = omega arith in
    let both : bit_xor a b * 2 ^ places + bit_xor 0 0 ≡ bit_xor a b * 2 ^ places = omega arith in
    let some : 0 < 2 ^ places = pow_pos places in
    sym (ap (λ (z : ℕ). bit_xor z (b * 2 ^ places)) one ∙ ap (λ (z : ℕ). bit_xor (a * 2 ^ places + 0) z) other ∙ xor_block places a b 0 0 some some ∙ both)

-- after a step the first bit is not set
cleared : (divisor word : ℕ) → divisor % 2 ≡ 1 → bit_xor (taken divisor (first_bit word)) word % 2 ≡ 0
cleared divisor word odd =
    elim (eqb_tells (word % 2) 1) [
      | inl set ↦ rw (set.0, xor_mod divisor word 1, odd, set.1) refl
      | inr unset ↦
          let none : word % 2 ≡ 0 = omega (arith, unset.1) in
          rw (unset.0, xor_zero_l word) none
    ]

-- a word is determined by its first bit and the result of the step
rejoined : (divisor word : ℕ) → divisor % 2 ≡ 1 → bit_xor (taken divisor (first_bit word)) (halved divisor word * 2) ≡ word
unfolding halved
rejoined divisor word odd =
    let even : bit_xor (taken divisor (first_bit word)) word % 2 ≡ 0 = cleared divisor word odd in
    let whole : bit_xor (taken divisor (first_bit word)) word / 2 * 2 ≡ bit_xor (taken divisor (first_bit word)) word = omega arith in
    rw whole (xor_twice (taken divisor (first_bit word)) word)

-- a dividend is the product of divisor and quotient, plus the remainder
pub divides : (divisor places word : ℕ) → divisor % 2 ≡ 1
    → word ≡ plus (product divisor (quotient_of divisor places word)) (divided divisor places word * 2 ^ places)
unfolding divided quotient_of product
divides divisor zero word odd = sym (xor_zero_l (word * 2 ^ 0) ∙ mul-one word)
divides divisor (suc places) word odd =
    let next = halved divisor word in
    let most = product divisor (quotient_of divisor places next) in
    let left = divided divisor places next in
    let bit = taken divisor (first_bit word) in
    let before : next ≡ bit_xor most (left * 2 ^ places) = divides divisor places next odd in
    let doubled : next * 2 ≡ bit_xor (most * 2) (left * 2 ^ suc places) =
    ap (λ (z : ℕ). z * 2) before ∙ xor_moved 1 most (left * 2 ^ places) ∙ ap (λ (z : ℕ). bit_xor (most * 2) z) (sym (shifted left places)) in
    sym (rejoined divisor word odd) ∙ ap (λ (z : ℕ). bit_xor bit z) doubled ∙ sym (xor_assoc bit (most * 2) (left * 2 ^ suc places))

-- a step removes one coefficient of the product
halved_of : (divisor rest : ℕ) (bit : Bool) → divisor % 2 ≡ 1 → halved divisor (bit_xor (taken divisor bit) (rest * 2)) ≡ rest
unfolding halved
halved_of divisor rest true odd =
    let first : bit_xor divisor (rest * 2) % 2 ≡ 1 = ap (λ (z : ℕ). z % 2) (xor_comm divisor (rest * 2)) ∙ even_first rest divisor ∙ odd in
    rw first (ap (λ (z : ℕ). z / 2) (xor_twice divisor (rest * 2)) ∙ double_half rest)
halved_of divisor rest false odd =
    let none : rest * 2 % 2 ≡ 0 = omega arith in
    rw (xor_zero_l (rest * 2), none, xor_zero_l (rest * 2)) (double_half rest)

-- Dividing a product of divisor and quotient, plus a remainder, gives that remainder.
pub left_of : (divisor remainder : ℕ) (quotient : List Bool) → divisor % 2 ≡ 1
    → divided divisor (length quotient) (plus (product divisor quotient) (remainder * 2 ^ length quotient)) ≡ remainder
unfolding divided product
left_of divisor remainder [] odd = xor_zero_l (remainder * 2 ^ 0) ∙ mul-one remainder
left_of divisor remainder (bit ∷ rest) odd =
    let most = product divisor rest in
    let places = length rest in
    let same : bit_xor (bit_xor (taken divisor bit) (most * 2)) (remainder * 2 ^ suc places) ≡ bit_xor (taken divisor bit) (bit_xor most (remainder * 2 ^ places) * 2) =
    xor_assoc (taken divisor bit) (most * 2) (remainder * 2 ^ suc places)
    ∙ ap (λ (z : ℕ). bit_xor (taken divisor bit) (bit_xor (most * 2) z)) (shifted remainder places)
    ∙ ap (λ (z : ℕ). bit_xor (taken divisor bit) z) (sym (xor_moved 1 most (remainder * 2 ^ places))) in
    ap (λ (z : ℕ). divided divisor places (halved divisor z)) same
    ∙ ap (λ (z : ℕ). divided divisor places z) (halved_of divisor (bit_xor most (remainder * 2 ^ places)) bit odd)
    ∙ left_of divisor remainder rest odd

taken_low : (divisor : ℕ) (bit : Bool) → divisor < 2 ^ 33 → taken divisor bit < 2 ^ 33
taken_low divisor true narrow = narrow
taken_low divisor false narrow = omega arith

-- a word of 32 bits gives one of 32 bits, after any number of steps
pub divided_low : (divisor places word : ℕ) → divisor < 2 ^ 33 → word < 2 ^ 32 → divided divisor places word < 2 ^ 32
unfolding divided halved
divided_low divisor zero word narrow low = low
divided_low divisor (suc places) word narrow low =
    let sum : bit_xor (taken divisor (first_bit word)) word < 2 ^ 33 =
    xor_lt 33 (taken divisor (first_bit word)) word (taken_low divisor (first_bit word) narrow) (omega arith) in
    divided_low divisor places (bit_xor (taken divisor (first_bit word)) word / 2) narrow (omega arith)

-- the result of the long division is a remainder
pub is_remainder : (divisor places word remainder : ℕ) → divisor % 2 ≡ 1 → remainder < 2 ^ 32 → remainder ≡ divided divisor places word
    → IsRemainder divisor places word remainder
is_remainder divisor places word remainder odd low same = record {
  quotient = quotient_of divisor places word;
  fills = quotient_fills divisor places word;
  divides = rw same (divides divisor places word odd);
  short = low;
}

-- a remainder is the result of the long division
pub remainder_is : {divisor places word remainder : ℕ} → IsRemainder divisor places word remainder → divisor % 2 ≡ 1
    → remainder ≡ divided divisor places word
remainder_is {divisor} {places} {word} {remainder} is odd =
    sym (rw (is.divides, ← is.fills) (left_of divisor remainder is.quotient odd))
