-- Cases on what a lookup, a test or a comparison returns, each with its equation.
use Rattle.std.proofs.Common.{◌≡◌, ◌≢◌, ◌⊎◌, inl, inr, ℕ, Option, Some, None, IsSome, refl, arith}
use Rattle.std.proofs.Math.Decide.{dec_le}

pub some_or_none : {X : Type 0} (o : Option X) → (o ≡ None) ⊎ ((x : X) × (o ≡ Some x))
some_or_none None = inl refl
some_or_none (Some x) = inr (x, refl)

pub some_value : {X : Type 0} (o : Option X) → IsSome o → (x : X) × (o ≡ Some x)
some_value None is = cc
some_value (Some x) is = (x, refl)

pub same_or_apart : (a b : ℕ) → (a ≡ b) ⊎ (a ≢ b)
same_or_apart a b = elim (dec_le a b) [
  | no above ↦ inr (λ same. omega arith)
  | yes below ↦ elim (dec_le b a) [
    | no less ↦ inr (λ same. omega arith)
    | yes above ↦ inl (omega arith)
  ]
]
