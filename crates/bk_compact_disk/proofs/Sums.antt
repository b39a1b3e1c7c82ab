-- A sum of lengths that stops at the greatest number of 64 bits.
use Rattle.std.proofs.Common.{◌≡◌, ℕ, ◌+◌, ◌-◌, ◌^◌, ◌<◌, List, [], arith, ap, sym, ◌∙◌}
use Rattle.std.specs.Prelude.{min, sum}

whole : (bytes most : ℕ) → bytes < most + 1 → min (bytes + 0) most ≡ bytes
whole bytes most fits = grind arith

-- Nothing is left to be added.
pub all_summed : (bytes : ℕ) (left : List ℕ) (total : ℕ) → left ≡ [] → bytes < 2 ^ 64
    → min (bytes + sum left) (2 ^ 64 - 1) ≡ min total (2 ^ 64 - 1) → bytes ≡ min total (2 ^ 64 - 1)
all_summed bytes left total none fits summed =
    sym (whole bytes (2 ^ 64 - 1) fits) ∙ ap (λ (xs : List ℕ). min (bytes + sum xs) (2 ^ 64 - 1)) (sym none) ∙ summed
