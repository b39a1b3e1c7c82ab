-- Sums of weights over the entries of a finite map, after insertions and removals.
use Rattle.std.proofs.Common.{◌≡◌, ℕ, ◌+◌, ◌≤◌, cond, Option, Some, None, List, [], ◌∷◌, Bool, not, inl, inr, IsSome, is_some}
use Rattle.std.proofs.Common.{refl, sym, ap, ◌∙◌, subst, arith, T}
use Rattle.std.specs.declared.cmp.Ordering.{Ordering}
use Rattle.std.specs.declared.cmp.Ordering.TheVariants.{Less, Equal, Greater}
use Rattle.std.specs.Cmp.{IsTotalOrder}
use Rattle.std.specs.List.{sum_by, filter}
use Rattle.std.specs.Option.{option_or}
use Rattle.std.specs.Ordering.{is_eq, is_lt, ordering_reverse}
use Rattle.std.specs.FinMap as finite
use Rattle.std.specs.FinMap.{IsAntisymmetric}
use Rattle.std.specs.FinMap.Entries.{find, put, by_order, is_sorted, below_all}
use Rattle.std.proofs.lemmas.List.Sums.{sum_by-cons}
use Rattle.std.proofs.lemmas.List.Filters.{sum_by-filter_both}
use Rattle.bk_record.proofs.Entries.{and_left, and_right, find-In, below-In, In-get}
use Rattle.bk_record.proofs.Maps.{get-remove_here, remove-none, insert-remove}
use Rattle.bk_record.proofs.SortedMaps.{entries-retain_keys}
use Rattle.bk_record.specs.Files.{In}

module _ {K X : Type 0} {R : K → K → Ordering} (total : IsTotalOrder R) (same : IsAntisymmetric R) (weigh : K × X → ℕ) where
  -- weight of a key's entry, 0 if it has none
  abbrev pub weight_at : K → Option X → ℕ
  weight_at k None = 0
  weight_at k (Some v) = weigh (k, v)

  -- a key below all others is not found
  find-below : (k : K) (e : K × X) (es : List (K × X)) → R k e.0 ≡ Less → T (is_sorted R (e ∷ es)) → find R k es ≡ None
  find-below k e es before sorted = elim (find R k es) as (λ o. find R k es ≡ o → o ≡ None) [
    | None ↦ λ _. refl
    | Some v ↦ λ is.
        let later = below-In total same e.0 k v es (and_left _ _ sorted) (find-In total same k es v is) in
        absurd (subst (λ (r : Ordering). T (is_lt r)) (total.antisymm e.0 k ∙ ap ordering_reverse before) later)
  ] refl

  sum-put : (k : K) (v : X) (es : List (K × X)) → T (is_sorted R es)
      → sum_by weigh (put R k v es) + weight_at k (find R k es) ≡ sum_by weigh es + weigh (k, v)
  sum-put k v [] sorted = omega (arith, sum_by-cons weigh (k, v) [])
  sum-put k v (e ∷ es) sorted =
      let old = sum_by-cons weigh e es in
      elim (R k e.0) as (λ r. R k e.0 ≡ r → sum_by weigh (by_order r ((k, v) ∷ e ∷ es) ((e.0, v) ∷ es) (e ∷ put R k v es))
      + weight_at k (cond (is_eq r) (Some e.1) (find R k es)) ≡ sum_by weigh (e ∷ es) + weigh (k, v)) [
        | Less ↦ λ before.
            let none : weight_at k (find R k es) ≡ 0 = ap (weight_at k) (find-below k e es before sorted) in
            omega (arith, none, sum_by-cons weigh (k, v) (e ∷ es))
        | Equal ↦ λ tied.
            let key = same k e.0 tied in
            let here : weigh (k, e.1) ≡ weigh e = ap (λ (q : K). weigh (q, e.1)) key in
            let new : weigh (k, v) ≡ weigh (e.0, v) = ap (λ (q : K). weigh (q, v)) key in
            omega (arith, old, here, new, sum_by-cons weigh (e.0, v) es)
        | Greater ↦ λ _.
            let later : T (is_sorted R es) = and_right (below_all R e.0 es) (is_sorted R es) sorted in
            omega (arith, old, sum-put k v es later, sum_by-cons weigh e (put R k v es))
      ] refl

  -- the sum of all weights
  abbrev pub weight : finite.FinMap R X → ℕ
  weight m = sum_by weigh (finite.entries m)

  pub weight-insert : (m : finite.FinMap R X) (k : K) (v : X) → weight (finite.insert m k v) + weight_at k (finite.get m k) ≡ weight m + weigh (k, v)
  weight-insert m k v =
      let put_in : weight (finite.insert m k v) ≡ sum_by weigh (put R k v (finite.entries m)) = ap (sum_by weigh) (finite.entries-insert total m k v) in
      let found : weight_at k (finite.get m k) ≡ weight_at k (find R k (finite.entries m)) = ap (weight_at k) (finite.get-entries m k) in
      omega (arith, put_in, found, sum-put k v (finite.entries m) (finite.entries_sorted m))

  -- the weights of the keys that pass a test and of the others add up
  pub weight-retain_keys : (m : finite.FinMap R X) (p q : K → Bool) → ((k : K) → q k ≡ not (p k))
      → weight (finite.retain_keys m p) + weight (finite.retain_keys m q) ≡ weight m
  weight-retain_keys m p q other =
      let these : weight (finite.retain_keys m p)
      ≡ sum_by weigh (filter (λ e. p e.0) (finite.entries m)) = ap (sum_by weigh) (entries-retain_keys total same m p) in
      let others : weight (finite.retain_keys m q)
      ≡ sum_by weigh (filter (λ e. q e.0) (finite.entries m)) = ap (sum_by weigh) (entries-retain_keys total same m q) in
      omega (arith, these, others, sum_by-filter_both (λ (e : K × X). p e.0) (λ e. q e.0) (λ e. other e.0) weigh (finite.entries m))

  pub weight-remove : (m : finite.FinMap R X) (k : K) → weight (finite.remove m k) + weight_at k (finite.get m k) ≡ weight m
  weight-remove m k = elim (finite.get m k) as (λ o. finite.get m k ≡ o → weight (finite.remove m k) + weight_at k o ≡ weight m) [
    | None ↦ λ none. omega (arith, ap weight (remove-none total same m k none))
    | Some v ↦ λ there.
        let gone = weight-insert (finite.remove m k) k v in
        let none : weight_at k (finite.get (finite.remove m k) k) ≡ 0 = ap (weight_at k) (get-remove_here total same m k) in
        omega (arith, gone, none, ap weight (insert-remove total same m k v there))
  ] refl

  -- the weight of a disjoint union is the sum of the weights
  pub weight-union : (u m n : finite.FinMap R X) → ((q : K) → finite.get u q ≡ option_or (finite.get n q) (finite.get m q))
      → ((q : K) → IsSome (finite.get n q) → finite.get m q ≡ None) → weight u ≡ weight m + weight n
  weight-union u m n is apart =
      let in_n : K → Bool = λ k. is_some (finite.get n k) in
      let alike : (p : K → Bool) (q x : K) → R q x ≡ Equal → p x ≡ p q = λ p q x tied. ap p (sym (same q x tied)) in
      let first : finite.retain_keys u in_n ≡ n = finite.same_map total same (finite.retain_keys u in_n) n (λ q.
      finite.get-retain_keys u in_n q (alike in_n q) ∙ ap (λ (o : Option X). cond (in_n q) o None) (is q) ∙ kept (finite.get n q) (finite.get m q)) in
      let rest : finite.retain_keys u (λ k. not (in_n k)) ≡ m = finite.same_map total same (finite.retain_keys u (λ k. not (in_n k))) m (λ q.
      finite.get-retain_keys u (λ k. not (in_n k)) q (alike (λ k. not (in_n k)) q)
      ∙ ap (λ (o : Option X). cond (not (in_n q)) o None) (is q) ∙ left (finite.get n q) (finite.get m q) (apart q)) in
      omega (arith, weight-retain_keys u in_n (λ k. not (in_n k)) (λ k. refl), ap weight first, ap weight rest)
    where
      kept : (o b : Option X) → cond (is_some o) (option_or o b) None ≡ o
      kept None b = refl
      kept (Some v) b = refl

      left : (o b : Option X) → (IsSome o → b ≡ None) → cond (not (is_some o)) (option_or o b) None ≡ b
      left None b none = refl
      left (Some v) b none = sym (none refl)

  -- if every entry weighs 0, so does the map
  pub weight-none : (m : finite.FinMap R X) → ((k : K) (v : X) → finite.get m k ≡ Some v → weigh (k, v) ≡ 0) → weight m ≡ 0
  weight-none m none = sum_none (finite.entries m) (λ k v there. none k v (In-get total same m k v there))
    where
      sum_none : (es : List (K × X)) → ((k : K) (v : X) → In (k, v) es → weigh (k, v) ≡ 0) → sum_by weigh es ≡ 0
      sum_none [] each = refl
      sum_none (e ∷ es) each = omega (arith, sum_by-cons weigh e es, each e.0 e.1 (inl refl), sum_none es (λ k v there. each k v (inr there)))

  pub weight-empty : weight finite.empty ≡ 0
  weight-empty = weight-none finite.empty (λ k v is. never k v (sym (finite.get-empty R k) ∙ is))
    where
      never : (k : K) (v : X) → None ≡ Some v → weigh (k, v) ≡ 0
      never k v e = cc

  -- an entry weighs at most as much as the map
  pub weight-le : (m : finite.FinMap R X) (k : K) (v : X) → finite.get m k ≡ Some v → weigh (k, v) ≤ weight m
  weight-le m k v is = omega (arith, weight-remove m k, ap (weight_at k) is)
