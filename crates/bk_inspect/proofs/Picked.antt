-- The logs that are picked, one more at a time.
use Rattle.std.proofs.Common.{◌≡◌, ℕ, ◌+◌, ◌<◌, Bool, true, false, List, [], ◌∷◌, ◌++◌, length, take, get_or, subst, sym, if◌then◌else◌}
use Rattle.std.proofs.lemmas.List.{take_more}
use Rattle.bk_inspect.specs.Unsealed.{ArePicked}
use Rattle.bk_inspect.specs.Unsealed.ArePicked.{taken, left}

pub picked_more : (Holds : ℕ → Bool → Type 0) (logs before after : List ℕ) (i : ℕ) (is : Bool) → i < length logs
    → ArePicked Holds (take i logs) before → Holds (get_or logs i 0) is
    → after ≡ (if is then before ++ get_or logs i 0 ∷ [] else before)
    → ArePicked Holds (take (i + 1) logs) after
picked_more Holds logs before after i true inside first holds same =
    subst (λ l. ArePicked Holds l after) (sym (take_more logs i 0 inside))
    (subst (λ p. ArePicked Holds (take i logs ++ get_or logs i 0 ∷ []) p) (sym same) (taken first holds))
picked_more Holds logs before after i false inside first holds same =
    subst (λ l. ArePicked Holds l after) (sym (take_more logs i 0 inside))
    (subst (λ p. ArePicked Holds (take i logs ++ get_or logs i 0 ∷ []) p) (sym same) (left first holds))
