-- Ratios compared by cross products: `r / t` is at most `s / u` if `r * u ≤ s * t`.
use Rattle.std.proofs.Common.{◌≡◌, ℕ, zero, suc, ◌*◌, ◌<◌, ◌≤◌, ap, arith}
use Rattle.std.proofs.Math.Nat.{mul-le-mul_right, le_of_mul-le-mul_right, mul-lt-mul_of_pos_right, lt_of_mul-lt-mul_right, eq_of_mul-eq-mul_right}

-- a log below a threshold has a positive total
pub total_pos : (threshold t r : ℕ) → r * 1000 < threshold * t → 0 < t
total_pos threshold zero r below = absurd (omega arith)
total_pos threshold (suc t) r below = omega arith

-- transitivity of at most
pub ratio_trans : (r t s u v w : ℕ) → 0 < u → r * u ≤ s * t → s * w ≤ v * u → r * w ≤ v * t
ratio_trans r t s u v w pos first second =
    le_of_mul-le-mul_right {k = u} (omega (arith, mul-le-mul_right w first, mul-le-mul_right t second)) pos

-- transitivity of less and at most
pub ratio_lt_trans : (r t s u v w : ℕ) → 0 < u → 0 < w → r * u < s * t → s * w ≤ v * u → r * w < v * t
ratio_lt_trans r t s u v w pos some first second =
    lt_of_mul-lt-mul_right u (omega (arith, mul-lt-mul_of_pos_right {k = w} first some, mul-le-mul_right t second))

-- transitivity of equality
pub ratio_same : (r t s u v w : ℕ) → 0 < t → r * u ≡ s * t → r * w ≡ v * t → s * w ≡ v * u
ratio_same r t s u v w pos first second =
    eq_of_mul-eq-mul_right t pos (s * w) (v * u) (omega (arith, ap (λ n. n * w) first, ap (λ n. n * u) second))
