-- A sum over the logs that are held grows log by log, by rising id.
use Rattle.std.proofs.Common.{◌≡◌, ◌⊎◌, inl, inr, ℕ, ◌+◌, ◌<◌, ◌≤◌, true, false, cond, ltb, List, [], ◌∷◌, Some, IsSome, is_some, refl, sym, ap, subst, ◌∙◌, arith}
use mathlib.Core.Bool.{false≢true}
use Rattle.std.specs.declared.cmp.Ordering.TheVariants.{Less}
use Rattle.std.specs.Ordering.{nat_cmp, eq_by_cmp}
use Rattle.std.specs.Bool.{IsTrue}
use Rattle.std.specs.Cmp.{Equal-is}
use Rattle.std.specs.List.{AllByRecursion, sum_by}
use Rattle.std.specs.FinMap.{FinMap, find, is_sorted, get, entries, entries_sorted, get-entries, nat_cmp-IsAntisymmetric}
use Rattle.std.proofs.lemmas.Bool.{lt-ltb, le-ltb, ne_eqb}
use Rattle.std.proofs.lemmas.Cmp.{ranked, nat_cmp_total, tied_itself}
use Rattle.std.proofs.lemmas.List.Sums.{sum_by-cons}
use Rattle.bk_record.proofs.SortedPairs.{is_true}
use Rattle.bk_index.proofs.CutPairs.{each_weaker, head_below, sorted_back}

leads : (a b : ℕ) → (a < b) ⊎ (b ≤ a)
leads a b = grind arith

module _ {X : Type 0} where
  -- a property of every id holds of an id that is found
  each_found : (P : ℕ → Type 0) (es : List (ℕ × X)) (k : ℕ) → AllByRecursion (λ e. P e.0) es → IsSome (find nat_cmp k es) → P k
  each_found P [] k each there = absurd (false≢true there)
  each_found P (e ∷ es) k each there =
      elim (eq_by_cmp nat_cmp k e.0) as (λ b. eq_by_cmp nat_cmp k e.0 ≡ b → IsSome (cond b (Some e.1) (find nat_cmp k es)) → P k) [
        | true ↦ λ tied _. subst P (sym (nat_cmp-IsAntisymmetric k e.0 ((Equal-is (nat_cmp k e.0)).0 tied))) each.0
        | false ↦ λ _ behind. each_found P es k each.1 behind
      ] refl there

  more_found : (k : ℕ) (e : ℕ × X) (es : List (ℕ × X)) → IsSome (find nat_cmp k es) → IsSome (find nat_cmp k (e ∷ es))
  more_found k e es there = elim (eq_by_cmp nat_cmp k e.0) as (λ b. IsSome (cond b (Some e.1) (find nat_cmp k es))) [ true ↦ refl | false ↦ there ]

  all_found : (es : List (ℕ × X)) → AllByRecursion (λ y. IsSome (find nat_cmp y.0 es)) es
  all_found [] = tt
  all_found (e ∷ es) = (rw (tied_itself nat_cmp_total e.0) refl, each_weaker _ _ (λ d there. more_found d.0 e es there) es (all_found es))

  rise : (e : ℕ × X) (es : List (ℕ × X)) → IsTrue (is_sorted nat_cmp (e ∷ es)) → AllByRecursion (λ d. e.0 < d.0) es
  rise e es sorted = each_weaker (λ d. nat_cmp e.0 d.0 ≡ Less) (λ d. e.0 < d.0) (λ d less. ranked e.0 d.0 Less (sym less)) es (head_below nat_cmp e es sorted)

  module _ (of_log : ℕ → ℕ) where
    -- what an id below a bound adds
    abbrev part : ℕ → ℕ × X → ℕ
    part n e = cond (ltb e.0 n) (of_log e.0) 0

    counted : (n : ℕ) (e : ℕ × X) → e.0 < n → part n e ≡ of_log e.0
    counted n e below = ap (λ b. cond b (of_log e.0) 0) (lt-ltb e.0 n below)

    uncounted : (n : ℕ) (e : ℕ × X) → n ≤ e.0 → part n e ≡ 0
    uncounted n e above = ap (λ b. cond b (of_log e.0) 0) (le-ltb e.0 n above)

    none_counted : (n : ℕ) (es : List (ℕ × X)) → AllByRecursion (λ d. n ≤ d.0) es → sum_by (part n) es ≡ 0
    none_counted n [] each = refl
    none_counted n (e ∷ es) each = omega (arith, sum_by-cons (part n) e es, uncounted n e each.0, none_counted n es each.1)

    all_counted : (n : ℕ) (es : List (ℕ × X)) → AllByRecursion (λ d. d.0 < n) es → sum_by (part n) es ≡ sum_by (λ e. of_log e.0) es
    all_counted n [] each = refl
    all_counted n (e ∷ es) each =
        omega (arith, sum_by-cons (part n) e es, sum_by-cons (λ (d : ℕ × X). of_log d.0) e es, counted n e each.0, all_counted n es each.1)

    one_more : (from id : ℕ) → from ≤ id → (es : List (ℕ × X)) → IsTrue (is_sorted nat_cmp es) → AllByRecursion (λ e. from ≤ e.0 → id ≤ e.0) es
        → IsSome (find nat_cmp id es) → sum_by (part (id + 1)) es ≡ sum_by (part from) es + of_log id
    one_more from id order [] sorted each there = absurd (false≢true there)
    one_more from id order (e ∷ es) sorted each there =
        let behind = sorted_back nat_cmp (e ∷ []) es sorted in
        let later = rise e es sorted in
        let new = sum_by-cons (part (id + 1)) e es in
        let old = sum_by-cons (part from) e es in
        elim (leads e.0 from) [
          | inl before ↦
              let apart : eq_by_cmp nat_cmp id e.0 ≡ false = rw (le-ltb id e.0 (omega arith), ne_eqb id e.0 (omega arith)) refl in
              let found : IsSome (find nat_cmp id es) = subst (λ b. IsSome (cond b (Some e.1) (find nat_cmp id es))) apart there in
              omega (
                arith,
                new,
                old,
                counted (id + 1) e (omega arith),
                counted from e before,
                one_more from id order es behind each.1 found,
              )
          | inr above ↦
              let low = each.0 above in
              elim (leads id e.0) [
                | inl under ↦
                    let high = each_found (λ k. e.0 ≤ k) (e ∷ es) id (omega arith, each_weaker (λ d. e.0 < d.0) (λ d. e.0 ≤ d.0) (λ d less. omega arith) es later) there in
                    absurd (omega arith)
                | inr upto ↦
                    let same : e.0 ≡ id = omega arith in
                    omega (
                      arith,
                      new,
                      old,
                      counted (id + 1) e (omega arith),
                      none_counted (id + 1) es (each_weaker (λ d. e.0 < d.0) (λ d. id + 1 ≤ d.0) (λ d less. omega arith) es later),
                      uncounted from e above,
                      none_counted from es (each_weaker (λ d. e.0 < d.0) (λ d. from ≤ d.0) (λ d less. omega arith) es later),
                      ap of_log same,
                    )
              ]
        ]

-- the sum over the ids below a bound
abbrev pub sum_below : {X : Type 0} → FinMap nat_cmp X → (ℕ → ℕ) → ℕ → ℕ
sum_below table of_log n = sum_by (λ e. cond (ltb e.0 n) (of_log e.0) 0) (entries table)

module _ {X : Type 0} (table : FinMap nat_cmp X) (of_log : ℕ → ℕ) where
  pub sum_start : sum_below table of_log 0 ≡ 0
  sum_start = none_counted of_log 0 (entries table) (each_weaker _ _ (λ d there. omega arith) (entries table) (all_found (entries table)))

  pub sum_end : (from : ℕ) → ((id : ℕ) → IsSome (get table id) → id < from) → sum_below table of_log from ≡ sum_by (λ e. of_log e.0) (entries table)
  sum_end from past = all_counted of_log from (entries table)
      (each_weaker _ _ (λ d there. past d.0 (ap is_some (get-entries table d.0) ∙ there)) (entries table) (all_found (entries table)))

  pub sum_step : (from id : ℕ) → IsSome (get table id) → from ≤ id → ((other : ℕ) → IsSome (get table other) → from ≤ other → id ≤ other)
      → sum_below table of_log (id + 1) ≡ sum_below table of_log from + of_log id
  sum_step from id held order least =
      one_more of_log from id order (entries table) (is_true _ (entries_sorted table))
      (each_weaker _ _ (λ d there above. least d.0 (ap is_some (get-entries table d.0) ∙ there) above) (entries table) (all_found (entries table)))
      (ap is_some (sym (get-entries table id)) ∙ held)
