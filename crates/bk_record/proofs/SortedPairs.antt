-- Pairs sorted by key, by position: a binary search finds what a look-up finds, and an edit at the
-- position found edits the map.
use Rattle.std.proofs.Common.{◌≡◌, ℕ, zero, suc, ◌<◌, ◌≤◌, Bool, true, false, T, cond, List, [], ◌∷◌, ◌++◌, length, drop, set, Some, None, slice_get, unwrap_or}
use Rattle.std.proofs.Common.{refl, sym, ap, subst, ◌∙◌, arith}
use Rattle.std.specs.declared.cmp.Ordering.{Ordering}
use Rattle.std.specs.declared.cmp.Ordering.TheVariants.{Less, Equal, Greater}
use Rattle.std.specs.Ordering.{eq_by_cmp, is_lt, ordering_reverse}
use Rattle.std.specs.Bool.{IsTrue}
use Rattle.std.specs.Cmp.{IsTotalOrder, eq_by_cmp_equiv, tied_itself}
use Rattle.std.specs.List.{AllByRecursion, filter, insert}
use Rattle.std.specs.List.Sorted.{IsStrictlySortedBy}
use Rattle.std.specs.Map.{keys_of, lookup}
use Rattle.std.specs.FinMap.{find, put, is_sorted}
use Rattle.std.specs.FinMap.Entries.{below_all, is_sorted-put}
use Rattle.std.proofs.lemmas.Map.Entries.{lookup_from_place, lookup_at_gap}
use Rattle.std.proofs.lemmas.Map.Keys.{IsDistinct-from_sorted}
use Rattle.std.proofs.lemmas.Bool.{and_parts}
use Rattle.std.specs.Cmp.Derive.{both_true}

-- a true test, in the two forms of std
pub passed : (b : Bool) → IsTrue b → T b
passed b is = subst T (sym is) tt

pub is_true : (b : Bool) → T b → IsTrue b
is_true true h = refl
is_true false h = absurd h

pub less_from_test : (r : Ordering) → IsTrue (is_lt r) → r ≡ Less
less_from_test Less e = refl
less_from_test Equal e = cc
less_from_test Greater e = cc

pub Some-same : {A : Type 0} {x y : A} → Some x ≡ Some y → x ≡ y
Some-same {x = x} e = ap (λ o. unwrap_or o x) e

-- a property of every key holds of the key at a position
each_at : {K X : Type 0} (P : K → Type 0) (es : List (K × X)) (i : ℕ) (k : K) (v : X) → AllByRecursion P (keys_of es) → slice_get es i ≡ Some (k, v) → P k
each_at P [] i k v all at = cc
each_at P (e ∷ es) zero k v all at = subst P (ap (λ p. p.0) (Some-same at)) all.0
each_at P (e ∷ es) (suc i) k v all at = each_at P es i k v all.1 at

module _ {K X : Type 0} (R : K → K → Ordering) where
  pub find-lookup : (q : K) (es : List (K × X)) → find R q es ≡ lookup (eq_by_cmp R q) es
  find-lookup q [] = refl
  find-lookup q (e ∷ es) = ap (cond (eq_by_cmp R q e.0) (Some e.1)) (find-lookup q es)

  below_each : (x : K) (es : List (K × X)) → IsTrue (below_all R x es) → AllByRecursion (λ y. R x y ≡ Less) (keys_of es)
  below_each x [] below = tt
  below_each x (e ∷ es) below = let parts = and_parts _ _ below in (less_from_test _ parts.0, below_each x es parts.1)

  -- two forms of being sorted by key
  pub keys_rise : (es : List (K × X)) → IsTrue (is_sorted R es) → IsStrictlySortedBy R (keys_of es)
  unfolding IsStrictlySortedBy
  keys_rise [] sorted = tt
  keys_rise (e ∷ es) sorted = let parts = and_parts _ _ sorted in (below_each e.0 es parts.0, keys_rise es parts.1)

  below_front : (k : K) (xs ys : List (K × X)) → IsTrue (below_all R k (xs ++ ys)) → IsTrue (below_all R k xs)
  below_front k [] ys below = refl
  below_front k (x ∷ xs) ys below = let parts = and_parts _ _ below in both_true parts.0 (below_front k xs ys parts.1)

  -- a prefix of sorted pairs is sorted
  pub sorted_front : (xs ys : List (K × X)) → IsTrue (is_sorted R (xs ++ ys)) → IsTrue (is_sorted R xs)
  sorted_front [] ys sorted = refl
  sorted_front (x ∷ xs) ys sorted =
      let parts = and_parts _ _ sorted in both_true (below_front x.0 xs ys parts.0) (sorted_front xs ys parts.1)

module _ {K X : Type 0} {R : K → K → Ordering} (o : IsTotalOrder R) where
  -- a look-up finds the pair at a position
  pub find_at : (es : List (K × X)) (i : ℕ) (k : K) (v : X) → IsTrue (is_sorted R es) → slice_get es i ≡ Some (k, v) → find R k es ≡ Some v
  find_at es i k v sorted at =
      find-lookup R k es ∙ lookup_from_place (eq_by_cmp_equiv o) es i k v (IsDistinct-from_sorted R _ (keys_rise R es sorted)) at

  -- a look-up does not find a key that would be inserted at a position
  pub find_gap : (k : K) (es : List (K × X)) (i : ℕ) → ((j : ℕ) (e : K × X) → j < i → slice_get es j ≡ Some e → R e.0 k ≡ Less)
      → ((j : ℕ) (e : K × X) → i ≤ j → slice_get es j ≡ Some e → R e.0 k ≡ Greater) → IsTrue (is_sorted R es) → find R k es ≡ None
  find_gap k es i before behind sorted =
      find-lookup R k es
      ∙ lookup_at_gap o k es i (keys_rise R es sorted) (λ j e lt at. o.antisymm k e.0 ∙ ap ordering_reverse (before j e lt at))
      (λ e at. o.antisymm k e.0 ∙ ap ordering_reverse (behind i e (omega arith) at))

  -- inserting a new key at its position
  pub put_gap : (k : K) (v : X) (es : List (K × X)) (i : ℕ) → ((j : ℕ) (e : K × X) → j < i → slice_get es j ≡ Some e → R e.0 k ≡ Less)
      → ((j : ℕ) (e : K × X) → i ≤ j → slice_get es j ≡ Some e → R e.0 k ≡ Greater) → i ≤ length es → put R k v es ≡ insert es i (k, v)
  put_gap k v [] zero before behind in_range = refl
  put_gap k v [] (suc i) before behind in_range = absurd (omega arith)
  put_gap k v (e ∷ es) zero before behind in_range =
      rw (o.antisymm k e.0 ∙ ap ordering_reverse (behind zero e (omega arith) refl))
  put_gap k v (e ∷ es) (suc i) before behind in_range =
      rw (o.antisymm k e.0 ∙ ap ordering_reverse (before zero e (omega arith) refl))
      (ap (λ rest. e ∷ rest) (put_gap k v es i (λ j e' lt at. before (suc j) e' (omega arith) at) (λ j e' le at. behind (suc j) e' (omega arith) at)
      (omega arith)))

  -- overwriting the value of the key at a position
  pub put_at : (k : K) (v w : X) (es : List (K × X)) (i : ℕ) → IsTrue (is_sorted R es) → slice_get es i ≡ Some (k, v) → put R k w es ≡ set es i (k, w)
  put_at k v w [] i sorted at = cc
  put_at k v w (e ∷ es) zero sorted at =
      let here : e.0 ≡ k = ap (λ p. p.0) (Some-same at) in
      rw (here, tied_itself o k)
  put_at k v w (e ∷ es) (suc i) sorted at =
      let parts = and_parts _ _ sorted in
      rw (o.antisymm k e.0 ∙ ap ordering_reverse (each_at _ es i k v (below_each R e.0 es parts.0) at))
      (ap (λ rest. e ∷ rest) (put_at k v w es i parts.1 at))

  pub is_sorted_put : (k : K) (v : X) (es : List (K × X)) → IsTrue (is_sorted R es) → IsTrue (is_sorted R (put R k v es))
  is_sorted_put k v es sorted = is_true _ (is_sorted-put R o k v es (passed _ sorted))

  -- in sorted pairs all keys after the key at a position are greater
  all_behind : (k : K) (es : List (K × X)) → AllByRecursion (λ y. R k y ≡ Less) (keys_of es) → filter (λ e. is_lt (R k e.0)) es ≡ es
  all_behind k [] all = refl
  all_behind k (e ∷ es) all = rw all.0 (ap (λ rest. e ∷ rest) (all_behind k es all.1))

  pub filter-behind : (k : K) (v : X) (es : List (K × X)) (i : ℕ) → IsTrue (is_sorted R es) → slice_get es i ≡ Some (k, v)
      → filter (λ e. is_lt (R k e.0)) es ≡ drop (suc i) es
  filter-behind k v [] i sorted at = cc
  filter-behind k v (e ∷ es) zero sorted at =
      let parts = and_parts _ _ sorted in
      let here : e.0 ≡ k = ap (λ p. p.0) (Some-same at) in
      rw (here, tied_itself o k) (all_behind k es (subst (λ (q : K). AllByRecursion (λ y. R q y ≡ Less) (keys_of es)) here (below_each R e.0 es parts.0)))
  filter-behind k v (e ∷ es) (suc i) sorted at =
      let parts = and_parts _ _ sorted in
      rw (o.antisymm k e.0 ∙ ap ordering_reverse (each_at _ es i k v (below_each R e.0 es parts.0) at)) (filter-behind k v es i parts.1 at)
