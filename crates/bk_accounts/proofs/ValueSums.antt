-- Sum over the values of a finite map by number, after a change at one key.
use Rattle.std.proofs.Common.{◌≡◌, ℕ, ◌+◌, ◌≤◌, Bool, true, false, cond, T, List, [], ◌∷◌, ◌&&◌, map, length, Some, None, nat_cmp, is_eq, is_lt, Ordering, Less}
use Rattle.std.proofs.Common.{Equal, Greater, unwrap_or, refl, sym, ap, subst, ◌∙◌, arith}
use Rattle.std.specs.List.{sum}
use Rattle.std.specs.Ordering.{eq_by_cmp}
use Rattle.std.specs.Cmp.{nat_cmp_total, tied_itself}
use Rattle.std.specs.FinMap.{FinMap, find, put, is_sorted, get, insert, remove, entries, entries_sorted, values, empty, get-entries, get-insert, get-remove}
use Rattle.std.specs.FinMap.{entries-insert, len-entries, len-empty, nat_cmp-IsAntisymmetric}
use Rattle.std.specs.FinMap.Entries.{by_order, below_all}
use Rattle.std.proofs.lemmas.List.Sums.{sum_by-cons}
use Rattle.std.proofs.lemmas.Map.Views.{tells_apart}
use Rattle.bk_accounts.proofs.Maps.{same_by_get}

abbrev values_in : List (ℕ × ℕ) → List ℕ
values_in es = map (λ e. e.1) es

first : (a b : Bool) → T (a && b) → T a
first true b p = tt
first false b p = p

second : (a b : Bool) → T (a && b) → T b
second true b p = p
second false b p = absurd p

less : (o : Ordering) → T (is_lt o) → o ≡ Less
less Less p = refl
less Equal p = absurd p
less Greater p = absurd p

both : (a b : Bool) → T a → T b → T (a && b)
both true b p q = q
both false b p q = p

below_lower : (x y : ℕ) (es : List (ℕ × ℕ)) → nat_cmp x y ≡ Less → T (below_all nat_cmp y es) → T (below_all nat_cmp x es)
below_lower x y [] lower below = tt
below_lower x y (e ∷ es) lower below =
    both _ _ (subst (λ r. T (is_lt r)) (sym (nat_cmp_total.trans x y e.0 lower (less _ (first _ _ below)))) tt)
    (below_lower x y es lower (second _ _ below))

-- a key below all others is not found
find_below : (k : ℕ) (es : List (ℕ × ℕ)) → T (below_all nat_cmp k es) → find nat_cmp k es ≡ None
find_below k [] below = refl
find_below k (e ∷ es) below =
    ap (λ r. cond (is_eq r) (Some e.1) (find nat_cmp k es)) (less _ (first _ _ below)) ∙ find_below k es (second _ _ below)

-- inserting a value replaces the old value of the key in the sum
sum-put : (k v : ℕ) (es : List (ℕ × ℕ)) → T (is_sorted nat_cmp es)
    → sum (values_in (put nat_cmp k v es)) + unwrap_or (find nat_cmp k es) 0 ≡ sum (values_in es) + v
sum-put k v [] sorted = omega arith
sum-put k v (e ∷ es) sorted =
    let rest : sum (values_in (put nat_cmp k v es)) + unwrap_or (find nat_cmp k es) 0 ≡ sum (values_in es) + v =
    sum-put k v es (second (below_all nat_cmp e.0 es) (is_sorted nat_cmp es) sorted) in
    let was = sum_by-cons (λ x. x) e.1 (values_in es) in
    elim (nat_cmp k e.0) as (λ r. nat_cmp k e.0 ≡ r
    → sum (values_in (by_order r ((k, v) ∷ e ∷ es) ((e.0, v) ∷ es) (e ∷ put nat_cmp k v es))) + unwrap_or
    (cond (is_eq r) (Some e.1) (find nat_cmp k es)) 0 ≡ sum (values_in (e ∷ es)) + v) [
      | Less ↦ λ lower.
          let none : unwrap_or (find nat_cmp k es) 0 ≡ 0 = ap (λ o. unwrap_or o 0) (find_below k es (below_lower k e.0 es lower (first _ _ sorted))) in
          omega (arith, none, sum_by-cons (λ x. x) v (values_in (e ∷ es)))
      | Equal ↦ λ same. omega (arith, was, sum_by-cons (λ x. x) v (values_in es))
      | Greater ↦ λ higher. omega (arith, was, rest, sum_by-cons (λ x. x) e.1 (values_in (put nat_cmp k v es)))
    ] refl

-- the sum after an insertion
pub sum-insert : (m : FinMap nat_cmp ℕ) (k v : ℕ) → sum (values (insert m k v)) + unwrap_or (get m k) 0 ≡ sum (values m) + v
sum-insert m k v =
    ap (λ es. sum (values_in es) + unwrap_or (get m k) 0) (entries-insert nat_cmp_total m k v)
    ∙ ap (λ o. sum (values_in (put nat_cmp k v (entries m))) + unwrap_or o 0) (get-entries m k)
    ∙ sum-put k v (entries m) (entries_sorted m)

-- removing a key that the map does not have changes nothing
pub kept_absent : (m : FinMap nat_cmp ℕ) (k q : ℕ) → get m k ≡ None → get (remove m k) q ≡ get m q
kept_absent m k q none = get-remove nat_cmp_total m k q
    ∙ elim (eq_by_cmp nat_cmp q k) as (λ b. eq_by_cmp nat_cmp q k ≡ b → cond b None (get m q) ≡ get m q) [
      | true ↦ λ h. sym (ap (get m) (tells_apart nat_cmp-IsAntisymmetric q k h) ∙ none)
      | false ↦ λ _. refl
    ] refl

put_back : (m : FinMap nat_cmp ℕ) (k v q : ℕ) → get m k ≡ Some v → get (insert (remove m k) k v) q ≡ get m q
put_back m k v q found = get-insert nat_cmp_total (remove m k) k v q
    ∙ ap (cond (eq_by_cmp nat_cmp q k) (Some v)) (get-remove nat_cmp_total m k q)
    ∙ elim (eq_by_cmp nat_cmp q k) as (λ b. eq_by_cmp nat_cmp q k ≡ b → cond b (Some v) (cond b None (get m q)) ≡ get m q) [
      | true ↦ λ h. sym (ap (get m) (tells_apart nat_cmp-IsAntisymmetric q k h) ∙ found)
      | false ↦ λ _. refl
    ] refl

-- a removed key has no value
pub get-removed : (m : FinMap nat_cmp ℕ) (k : ℕ) → get (remove m k) k ≡ None
get-removed m k = get-remove nat_cmp_total m k k ∙ ap (λ r. cond (is_eq r) None (get m k)) (tied_itself nat_cmp_total k)

-- the sum after a removal
pub sum-remove : (m : FinMap nat_cmp ℕ) (k : ℕ) → sum (values (remove m k)) + unwrap_or (get m k) 0 ≡ sum (values m)
sum-remove m k =
    elim (get m k) as (λ o. get m k ≡ o → sum (values (remove m k)) + unwrap_or o 0 ≡ sum (values m)) [
      | None ↦ λ none.
          let same : sum (values (remove m k)) ≡ sum (values m) = ap (λ n. sum (values n)) (same_by_get _ _ (λ q. kept_absent m k q none)) in
          omega arith
      | Some v ↦ λ found.
          let again : sum (values (insert (remove m k) k v)) ≡ sum (values m) = ap (λ n. sum (values n)) (same_by_get _ _ (λ q. put_back m k v q found)) in
          let gone : unwrap_or (get (remove m k) k) 0 ≡ 0 = ap (λ o. unwrap_or o 0) (get-removed m k) in
          omega (arith, sum-insert (remove m k) k v)
    ] refl

nothing : (es : List (ℕ × ℕ)) → length es ≡ 0 → sum (values_in es) ≡ 0
nothing [] none = refl
nothing (e ∷ es) none = absurd (omega arith)

-- the empty map has the sum 0
pub sum-empty : sum (values (empty {X = ℕ} {R = nat_cmp})) ≡ 0
sum-empty = nothing (entries empty) (sym (len-entries empty) ∙ len-empty nat_cmp ℕ)

-- a value is at most the sum
pub get-le-sum : (m : FinMap nat_cmp ℕ) (k : ℕ) → unwrap_or (get m k) 0 ≤ sum (values m)
get-le-sum m k = omega (arith, sum-remove m k)
