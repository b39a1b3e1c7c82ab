-- Finite maps by any key: look-up after an insertion or a removal.
use Rattle.std.proofs.Common.{◌≡◌, ◌≢◌, ◌⊎◌, inl, inr, Some, None, Bool, true, false, cond, refl, sym, ap, ◌∙◌}
use Rattle.std.specs.declared.cmp.Ordering.{Ordering}
use Rattle.std.specs.Cmp.{IsTotalOrder}
use Rattle.std.specs.Ordering.{eq_by_cmp, is_eq}
use Rattle.std.specs.FinMap as finite
use Rattle.std.specs.FinMap.{IsAntisymmetric}
use Rattle.std.proofs.lemmas.Map.Views.{tells_apart}
use Rattle.std.proofs.lemmas.Cmp.{tied_itself}

module _ {K : Type 0} {R : K → K → Ordering} (total : IsTotalOrder R) (same : IsAntisymmetric R) where
  -- two keys are equal or different
  pub key_cases : (q k : K) → (q ≡ k) ⊎ ((eq_by_cmp R q k ≡ false) × (q ≢ k))
  key_cases q k = elim (eq_by_cmp R q k) as (λ b. eq_by_cmp R q k ≡ b → (q ≡ k) ⊎ ((b ≡ false) × (q ≢ k))) [
    | true ↦ λ tied. inl (tells_apart same q k tied)
    | false ↦ λ apart. inr (refl, λ e. let t : eq_by_cmp R q k ≡ true = ap (λ (x : K). eq_by_cmp R q x) (sym e) ∙ ap is_eq (tied_itself total q) in cc)
  ] refl

module _ {K X : Type 0} {R : K → K → Ordering} (total : IsTotalOrder R) (same : IsAntisymmetric R) where
  pub get-insert_here : (m : finite.FinMap R X) (k : K) (v : X) → finite.get (finite.insert m k v) k ≡ Some v
  get-insert_here m k v = finite.get-insert total m k v k ∙ ap (λ (b : Bool). cond b (Some v) (finite.get m k)) (ap is_eq (tied_itself total k))

  pub get-insert_else : (m : finite.FinMap R X) (k : K) (v : X) (q : K) → q ≢ k → finite.get (finite.insert m k v) q ≡ finite.get m q
  get-insert_else m k v q apart = elim (key_cases total same q k) [
    | inl e ↦ absurd (apart e)
    | inr other ↦ finite.get-insert total m k v q ∙ ap (λ (b : Bool). cond b (Some v) (finite.get m q)) other.0
  ]

  -- after an insertion a key has the new value, or the one that it had
  pub get-insert_cases : (m : finite.FinMap R X) (k : K) (v : X) (q : K) (w : X) → finite.get (finite.insert m k v) q ≡ Some w
      → ((q ≡ k) × (v ≡ w)) ⊎ ((q ≢ k) × (finite.get m q ≡ Some w))
  get-insert_cases m k v q w is = elim (key_cases total same q k) [
    | inl e ↦ inl (e, let here = ap (λ (x : K). finite.get (finite.insert m k v) x) e ∙ get-insert_here m k v in cc)
    | inr other ↦ inr (other.1, sym (get-insert_else m k v q other.1) ∙ is)
  ]

  -- a removed key has no value
  pub get-remove_here : (m : finite.FinMap R X) (k : K) → finite.get (finite.remove m k) k ≡ None
  get-remove_here m k = finite.get-remove total m k k ∙ ap (λ (b : Bool). cond b None (finite.get m k)) (ap is_eq (tied_itself total k))

  -- other keys keep their values
  pub get-remove_else : (m : finite.FinMap R X) (k q : K) → q ≢ k → finite.get (finite.remove m k) q ≡ finite.get m q
  get-remove_else m k q apart = elim (key_cases total same q k) [
    | inl e ↦ absurd (apart e)
    | inr other ↦ finite.get-remove total m k q ∙ ap (λ (b : Bool). cond b None (finite.get m q)) other.0
  ]

  -- removing a key that the map does not have
  pub remove-none : (m : finite.FinMap R X) (k : K) → finite.get m k ≡ None → finite.remove m k ≡ m
  remove-none m k none = finite.same_map total same (finite.remove m k) m (λ q. elim (key_cases total same q k) [
    | inl e ↦ ap (finite.get (finite.remove m k)) e ∙ get-remove_here m k ∙ sym (ap (finite.get m) e ∙ none)
    | inr other ↦ get-remove_else m k q other.1
  ])

  -- inserting the pair that was removed
  pub insert-remove : (m : finite.FinMap R X) (k : K) (v : X) → finite.get m k ≡ Some v → finite.insert (finite.remove m k) k v ≡ m
  insert-remove m k v there = finite.same_map total same (finite.insert (finite.remove m k) k v) m (λ q. elim (key_cases total same q k) [
    | inl e ↦ ap (finite.get (finite.insert (finite.remove m k) k v)) e ∙ get-insert_here (finite.remove m k) k v ∙ sym (ap (finite.get m) e ∙ there)
    | inr other ↦ get-insert_else (finite.remove m k) k v q other.1 ∙ get-remove_else m k q other.1
  ])

  -- inserting a key twice; inserting the pair that the map has
  pub insert-insert : (m : finite.FinMap R X) (k : K) (v w : X) → finite.insert (finite.insert m k v) k w ≡ finite.insert m k w
  insert-insert m k v w = finite.same_map total same (finite.insert (finite.insert m k v) k w) (finite.insert m k w) (λ q. elim (key_cases total same q k) [
    | inl e ↦ ap (finite.get (finite.insert (finite.insert m k v) k w)) e ∙ get-insert_here (finite.insert m k v) k w
        ∙ sym (ap (finite.get (finite.insert m k w)) e ∙ get-insert_here m k w)
    | inr other ↦ get-insert_else (finite.insert m k v) k w q other.1 ∙ get-insert_else m k v q other.1 ∙ sym (get-insert_else m k w q other.1)
  ])

  pub insert-same : (m : finite.FinMap R X) (k : K) (v : X) → finite.get m k ≡ Some v → finite.insert m k v ≡ m
  insert-same m k v there = finite.same_map total same (finite.insert m k v) m (λ q. elim (key_cases total same q k) [
    | inl e ↦ ap (finite.get (finite.insert m k v)) e ∙ get-insert_here m k v ∙ sym (ap (finite.get m) e ∙ there)
    | inr other ↦ get-insert_else m k v q other.1
  ])
