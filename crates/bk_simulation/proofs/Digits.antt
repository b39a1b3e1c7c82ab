-- A number without its binary digits after the first seven.
use Rattle.std.proofs.Common.{◌≡◌, ℕ, ◌+◌, ◌-◌, ◌*◌, ◌<◌, ◌≤◌, ◌/◌, ◌%◌, ◌^◌, min, arith, sym, ◌∙◌, ap, inl, inr}
use Rattle.std.specs.Int.Count.{count_leading_zeros}
use Rattle.std.proofs.lemmas.Nat.{leading_length, pow-add, pow_pos, le-div, div-add-mod'}
use Rattle.std.proofs.Math.Nat.{div-lt_iff_lt-mul, min-eq_left, mod-eq_of_lt, one-mul, pow-le-pow_right}
use Rattle.std.proofs.Math.Pow.{pow-lt}
use Rattle.std.proofs.lemmas.Bool.{cases_lt}
use Rattle.bk_simulation.specs.Numbers.{HasSevenDigits}

-- what is left without the remainder
cut : (n p : ℕ) → n - n % p ≡ n / p * p
cut n p = let parts = div-add-mod' n p in omega (arith, parts)

-- a number of at most seven digits
few : (n : ℕ) → n < 128 → HasSevenDigits n (n - n % 1)
few n small = (0, cut n 1, (div-lt_iff_lt-mul (omega arith)).1 (omega (arith, small)), λ none. absurd (omega (arith, none)))

-- a number of seven digits and so many more
more : (n zeros : ℕ) → n < 2 ^ (7 + zeros) → 2 ^ (7 + zeros) ≤ 2 * n + 1 → HasSevenDigits n (n - n % 2 ^ zeros)
more n zeros below above =
    let power : 2 ^ (7 + zeros) ≡ 128 * 2 ^ zeros = pow-add 2 7 zeros in
    let most : n < 128 * 2 ^ zeros = omega (arith, power, below) in
    let least : 64 * 2 ^ zeros ≤ n = omega (arith, power, above) in
    (zeros, cut n (2 ^ zeros), (div-lt_iff_lt-mul (pow_pos zeros)).1 most, λ _. le-div 64 n (2 ^ zeros) (pow_pos zeros) least)

-- a power of two as the code computes it
shifted : (zeros shift : ℕ) → shift ≡ zeros → zeros < 64 → 1 * 2 ^ shift % 2 ^ 64 ≡ 2 ^ zeros
shifted zeros shift is small =
    ap (λ it. 1 * 2 ^ it % 2 ^ 64) is ∙ (ap (λ it. it % 2 ^ 64) (one-mul (2 ^ zeros)) ∙ mod-eq_of_lt (pow-lt small))

-- the number without its digits after the first seven, as `rounded` computes it
pub seven : (n digits less shift : ℕ) → n < 2 ^ 64 → digits ≡ 64 - count_leading_zeros 64 n → less ≡ digits - 7
    → shift ≡ min less 63 → HasSevenDigits n (n - n % (1 * 2 ^ shift % 2 ^ 64))
seven n digits less shift fits all after is =
    let found = leading_length 64 n fits in
    let length : digits ≡ found.0 = omega (arith, all, found.1) in
    let bound : less ≤ 63 = omega (arith, all, after) in
    let same : shift ≡ less = is ∙ min-eq_left bound in
    elim (cases_lt 7 digits) [
      | inl long ↦
          let zeros : found.0 ≡ 7 + less = omega (arith, length, after, long) in
          let below : n < 2 ^ (7 + less) = rw (sym zeros) found.2 in
          let above : 2 ^ (7 + less) ≤ 2 * n + 1 = rw (sym zeros) found.3 in
          rw (shifted less shift same (omega (arith, bound))) (more n less below above)
      | inr short ↦
          let none : less ≡ 0 = omega (arith, after, short) in
          let two : 0 < 2 = omega arith in
          let under : found.0 ≤ 7 = omega (arith, length, short) in
          let power : 2 ^ found.0 ≤ 2 ^ 7 = pow-le-pow_right two under in
          let small : n < 128 = omega (arith, found.2, power) in
          rw (shifted 0 shift (same ∙ none) (omega arith)) (few n small)
    ]
