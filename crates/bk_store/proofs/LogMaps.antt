-- The map of the logs that are held, after one of them changed.
use Rattle.std.proofs.Common.{◌≡◌, ◌≢◌, ◌⊎◌, inl, inr, ℕ, Some, None, sym, ap, ◌∙◌}
use Rattle.std.specs.Ordering.{nat_cmp}
use Rattle.std.specs.FinMap as finite
use Rattle.std.specs.FinMap.{nat_cmp-IsAntisymmetric}
use Rattle.std.proofs.lemmas.Cmp.{nat_cmp_total}
use Rattle.std.proofs.lemmas.Option.{none-some}
use Rattle.bk_record.proofs.Maps.{get-insert_here, get-insert_else, get-insert_cases, get-remove_here, get-remove_else, insert-same}
use Rattle.bk_store.proofs.Cases.{same_or_apart}

module _ {X : Type 0} where
  -- the one that was put
  pub log-inserted : (m : finite.FinMap nat_cmp X) (id : ℕ) (v : X) (q : ℕ) → q ≡ id → finite.get (finite.insert m id v) q ≡ Some v
  log-inserted m id v q here = ap (λ (x : ℕ). finite.get (finite.insert m id v) x) here ∙ get-insert_here nat_cmp_total nat_cmp-IsAntisymmetric m id v

  -- all others are as they were
  pub log-insert_else : (m : finite.FinMap nat_cmp X) (id : ℕ) (v : X) (q : ℕ) → q ≢ id → finite.get (finite.insert m id v) q ≡ finite.get m q
  log-insert_else m id v q apart = get-insert_else nat_cmp_total nat_cmp-IsAntisymmetric m id v q apart

  pub log-insert_cases : (m : finite.FinMap nat_cmp X) (id : ℕ) (v : X) (q : ℕ) (w : X) → finite.get (finite.insert m id v) q ≡ Some w
      → ((q ≡ id) × (v ≡ w)) ⊎ ((q ≢ id) × (finite.get m q ≡ Some w))
  log-insert_cases m id v q w is = get-insert_cases nat_cmp_total nat_cmp-IsAntisymmetric m id v q w is

  pub log-same : (m : finite.FinMap nat_cmp X) (id : ℕ) (v : X) → finite.get m id ≡ Some v → finite.insert m id v ≡ m
  log-same m id v there = insert-same nat_cmp_total nat_cmp-IsAntisymmetric m id v there

  -- one is removed
  pub log-removed : (m : finite.FinMap nat_cmp X) (id : ℕ) → finite.get (finite.remove m id) id ≡ None
  log-removed m id = get-remove_here nat_cmp_total nat_cmp-IsAntisymmetric m id

  pub log-remove_else : (m : finite.FinMap nat_cmp X) (id q : ℕ) → q ≢ id → finite.get (finite.remove m id) q ≡ finite.get m q
  log-remove_else m id q apart = get-remove_else nat_cmp_total nat_cmp-IsAntisymmetric m id q apart

  pub log-remove_cases : (m : finite.FinMap nat_cmp X) (id q : ℕ) (v : X) → finite.get (finite.remove m id) q ≡ Some v → (q ≢ id) × (finite.get m q ≡ Some v)
  log-remove_cases m id q v is = elim (same_or_apart q id) [
    | inr apart ↦ (apart, sym (log-remove_else m id q apart) ∙ is)
    | inl here ↦ absurd (none-some v (sym (ap (finite.get (finite.remove m id)) here ∙ log-removed m id) ∙ is))
  ]
