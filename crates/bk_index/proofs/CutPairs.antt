-- Sorted pairs cut in two: the order of each part, and where a key is found or inserted.
use Rattle.std.proofs.Common.{◌≡◌, cond, List, [], ◌∷◌, ◌++◌, Some, None, refl, ap, ◌∙◌}
use Rattle.std.specs.declared.cmp.Ordering.{Ordering}
use Rattle.std.specs.declared.cmp.Ordering.TheVariants.{Less, Equal, Greater}
use Rattle.std.specs.Ordering.{eq_by_cmp, ordering_reverse}
use Rattle.std.specs.Bool.{IsTrue}
use Rattle.std.specs.Cmp.{IsTotalOrder}
use Rattle.std.specs.List.{AllByRecursion}
use Rattle.std.specs.FinMap.{find, put, is_sorted}
use Rattle.std.specs.FinMap.Entries.{by_order, below_all}
use Rattle.std.proofs.lemmas.Bool.{and_parts}
use Rattle.bk_record.proofs.SortedPairs.{less_from_test}

module _ {A : Type 0} (P : A → Type 0) where
  pub each_front : (xs ys : List A) → AllByRecursion P (xs ++ ys) → AllByRecursion P xs
  each_front [] ys each = tt
  each_front (x ∷ xs) ys each = (each.0, each_front xs ys each.1)

  pub each_back : (xs ys : List A) → AllByRecursion P (xs ++ ys) → AllByRecursion P ys
  each_back [] ys each = each
  each_back (x ∷ xs) ys each = each_back xs ys each.1

pub each_weaker : {A : Type 0} (P Q : A → Type 0) → ((x : A) → P x → Q x) → (xs : List A) → AllByRecursion P xs → AllByRecursion Q xs
each_weaker P Q weaker [] each = tt
each_weaker P Q weaker (x ∷ xs) each = (weaker x each.0, each_weaker P Q weaker xs each.1)

module _ {K X : Type 0} (R : K → K → Ordering) where
  each_above : (k : K) (es : List (K × X)) → IsTrue (below_all R k es) → AllByRecursion (λ e. R k e.0 ≡ Less) es
  each_above k [] below = tt
  each_above k (e ∷ es) below = let parts = and_parts _ _ below in (less_from_test _ parts.0, each_above k es parts.1)

  -- the first key is below all others
  pub head_below : (e : K × X) (es : List (K × X)) → IsTrue (is_sorted R (e ∷ es)) → AllByRecursion (λ d. R e.0 d.0 ≡ Less) es
  head_below e es sorted = each_above e.0 es (and_parts _ _ sorted).0

  pub sorted_back : (xs ys : List (K × X)) → IsTrue (is_sorted R (xs ++ ys)) → IsTrue (is_sorted R ys)
  sorted_back [] ys sorted = sorted
  sorted_back (x ∷ xs) ys sorted = sorted_back xs ys (and_parts _ _ sorted).1

  -- every key of the first part is below those of the second
  pub front_below : (xs : List (K × X)) (e : K × X) (es : List (K × X)) → IsTrue (is_sorted R (xs ++ e ∷ es)) → AllByRecursion (λ d. R d.0 e.0 ≡ Less) xs
  front_below [] e es sorted = tt
  front_below (x ∷ xs) e es sorted =
      let behind = each_back (λ d. R x.0 d.0 ≡ Less) xs (e ∷ es) (head_below x (xs ++ e ∷ es) sorted) in
      (behind.0, front_below xs e es (and_parts _ _ sorted).1)

turned : {K : Type 0} {R : K → K → Ordering} (o : IsTotalOrder R) (q k : K) → R k q ≡ Less → R q k ≡ Greater
turned o q k less = o.antisymm q k ∙ ap ordering_reverse less

module _ {K X : Type 0} {R : K → K → Ordering} (o : IsTotalOrder R) (q : K) where
  -- a key is not found among smaller keys, nor among greater ones
  pub find_behind : (xs ys : List (K × X)) → AllByRecursion (λ e. R e.0 q ≡ Less) xs → find R q (xs ++ ys) ≡ find R q ys
  find_behind [] ys below = refl
  find_behind (x ∷ xs) ys below = rw (turned o q x.0 below.0) (find_behind xs ys below.1)

  find_none : (ys : List (K × X)) → AllByRecursion (λ e. R q e.0 ≡ Less) ys → find R q ys ≡ None
  find_none [] above = refl
  find_none (y ∷ ys) above = rw above.0 (find_none ys above.1)

  pub find_before : (xs ys : List (K × X)) → AllByRecursion (λ e. R q e.0 ≡ Less) ys → find R q (xs ++ ys) ≡ find R q xs
  find_before [] ys above = find_none ys above
  find_before (x ∷ xs) ys above = ap (cond (eq_by_cmp R q x.0) (Some x.1)) (find_before xs ys above)

  -- a key is inserted after smaller keys and before greater ones
  pub put_behind : (v : X) (xs ys : List (K × X)) → AllByRecursion (λ e. R e.0 q ≡ Less) xs → put R q v (xs ++ ys) ≡ xs ++ put R q v ys
  put_behind v [] ys below = refl
  put_behind v (x ∷ xs) ys below = rw (turned o q x.0 below.0) (ap (λ rest. x ∷ rest) (put_behind v xs ys below.1))

  put_first : (v : X) (ys : List (K × X)) → AllByRecursion (λ e. R q e.0 ≡ Less) ys → put R q v ys ≡ (q, v) ∷ ys
  put_first v [] above = refl
  put_first v (y ∷ ys) above = rw above.0 refl

  pub put_before : (v : X) (xs ys : List (K × X)) → AllByRecursion (λ e. R q e.0 ≡ Less) ys → put R q v (xs ++ ys) ≡ put R q v xs ++ ys
  put_before v [] ys above = put_first v ys above
  put_before v (x ∷ xs) ys above =
      elim (R q x.0) as (λ r. by_order r ((q, v) ∷ x ∷ (xs ++ ys)) ((x.0, v) ∷ (xs ++ ys)) (x ∷ put R q v (xs ++ ys))
      ≡ by_order r ((q, v) ∷ x ∷ xs) ((x.0, v) ∷ xs) (x ∷ put R q v xs) ++ ys) [
        | Less ↦ refl
        | Equal ↦ refl
        | Greater ↦ ap (λ rest. x ∷ rest) (put_before v xs ys above)
      ]
