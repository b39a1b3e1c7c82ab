-- The pages cut where a test of keys ends, which passes for the smaller keys: the pairs that pass it,
-- and those that do not.
use Rattle.std.proofs.Common.{◌≡◌, ℕ, zero, suc, ◌-◌, ◌<◌, Bool, true, false, not, List, [], ◌∷◌, ◌++◌, length, get_or, take, drop, map, Some, None, slice_get, option_map}
use Rattle.std.proofs.Common.{refl, sym, ap, ◌∙◌, arith, append_assoc, length-append}
use mathlib.Core.Bool.{false≢true}
use Rattle.std.specs.declared.cmp.Ordering.TheVariants.{Less}
use Rattle.std.specs.Bool.{IsTrue}
use Rattle.std.specs.List.{AllByRecursion, filter}
use Rattle.std.specs.List.Sorted.{IsPartitionPoint}
use Rattle.std.specs.FinMap.{is_sorted}
use Rattle.std.proofs.lemmas.List.{append-nil}
use Rattle.std.proofs.lemmas.List.Elements.{filter-append}
use Rattle.bk_record.specs.Key.{EntryKey, key_cmp}
use Rattle.bk_index.specs.Pages.{first_key, all_pairs}
use Rattle.bk_index.proofs.CutPairs.{each_weaker, head_below, front_below, sorted_back}
use Rattle.bk_index.proofs.Homes.{AreFilled}
use Rattle.bk_index.proofs.RisingFences.{IsDownward}

-- the test passes exactly before this place
abbrev pub IsCut : {A : Type 0} → (A → Bool) → List A → ℕ → Type 0
IsCut p xs n = IsPartitionPoint (λ x. p x ≡ true) (λ x. p x ≡ false) xs n

module _ {A : Type 0} (p : A → Bool) where
  shift_zero : (x : A) (xs : List A) → IsCut p (x ∷ xs) zero → IsCut p xs zero
  shift_zero x xs cut = (λ i d from before. absurd (omega arith), λ i d from within. cut.1 (suc i) d (omega arith) (omega arith))

  shift_suc : (x : A) (xs : List A) (n : ℕ) → IsCut p (x ∷ xs) (suc n) → IsCut p xs n
  shift_suc x xs n cut = (λ i d from before. cut.0 (suc i) d (omega arith) (omega arith), λ i d from within. cut.1 (suc i) d (omega arith) (omega arith))

  pub cut_rest : (xs : List A) (n : ℕ) → IsCut p xs n → filter (λ x. not (p x)) xs ≡ drop n xs
  cut_rest [] zero cut = refl
  cut_rest [] (suc n) cut = refl
  cut_rest (x ∷ xs) zero cut = rw (cut.1 0 x (omega arith) (omega arith)) (ap (λ rest. x ∷ rest) (cut_rest xs zero (shift_zero x xs cut)))
  cut_rest (x ∷ xs) (suc n) cut = rw (cut.0 0 x (omega arith) (omega arith)) (cut_rest xs n (shift_suc x xs n cut))

  pub cut_front : (xs : List A) (n : ℕ) → IsCut p xs n → filter p xs ≡ take n xs
  cut_front [] zero cut = refl
  cut_front [] (suc n) cut = refl
  cut_front (x ∷ xs) zero cut = rw (cut.1 0 x (omega arith) (omega arith)) (cut_front xs zero (shift_zero x xs cut))
  cut_front (x ∷ xs) (suc n) cut = rw (cut.0 0 x (omega arith) (omega arith)) (ap (λ rest. x ∷ rest) (cut_front xs n (shift_suc x xs n cut)))

module _ {A : Type 0} where
  pub head_front : (front rest : List A) (x : A) → slice_get front 0 ≡ Some x → slice_get (front ++ rest) 0 ≡ Some x
  head_front [] rest x is = cc
  head_front (y ∷ ys) rest x is = is

  pub head_behind : (front rest : List A) → slice_get front 0 ≡ None → slice_get (front ++ rest) 0 ≡ slice_get rest 0
  head_behind [] rest none = refl
  head_behind (y ∷ ys) rest none = cc

  pub last_behind : (front rest : List A) → 0 < length rest → slice_get (front ++ rest) (length (front ++ rest) - 1) ≡ slice_get rest (length rest - 1)
  last_behind [] rest some = refl
  last_behind (y ∷ ys) rest some =
      let long : length (y ∷ (ys ++ rest)) - 1 ≡ suc (length (ys ++ rest) - 1) = omega (arith, length-append ys rest) in
      ap (slice_get (y ∷ (ys ++ rest))) long ∙ last_behind ys rest some

upward : (p : EntryKey → Bool) → IsDownward p → (a b : EntryKey) → key_cmp a b ≡ Less → p a ≡ false → p b ≡ false
upward p down a b less fails = elim (p b) as (λ r. p b ≡ r → r ≡ false) [
  | true ↦ λ passes. absurd (false≢true (sym fails ∙ down a b less passes))
  | false ↦ λ _. refl
] refl

module _ {X : Type 0} (p : EntryKey → Bool) where
  stay_all : (es : List (EntryKey × X)) → AllByRecursion (λ e. p e.0 ≡ false) es → filter (λ e. not (p e.0)) es ≡ es
  stay_all [] each = refl
  stay_all (e ∷ es) each = rw each.0 (ap (λ rest. e ∷ rest) (stay_all es each.1))

  stay_none : (es : List (EntryKey × X)) → AllByRecursion (λ e. p e.0 ≡ true) es → filter (λ e. not (p e.0)) es ≡ []
  stay_none [] each = refl
  stay_none (e ∷ es) each = rw each.0 (stay_none es each.1)

  pass_none : (es : List (EntryKey × X)) → AllByRecursion (λ e. p e.0 ≡ false) es → filter (λ e. p e.0) es ≡ []
  pass_none [] each = refl
  pass_none (e ∷ es) each = rw each.0 (pass_none es each.1)

  pass_all : (es : List (EntryKey × X)) → AllByRecursion (λ e. p e.0 ≡ true) es → filter (λ e. p e.0) es ≡ es
  pass_all [] each = refl
  pass_all (e ∷ es) each = rw each.0 (ap (λ rest. e ∷ rest) (pass_all es each.1))

  module _ (down : IsDownward p) where
    -- no key passes if the first one does not
    fail_from : (pages : List (List (EntryKey × X))) → IsTrue (is_sorted key_cmp (all_pairs pages)) → AreFilled pages → IsCut p (map first_key pages) 0
        → AllByRecursion (λ e. p e.0 ≡ false) (all_pairs pages)
    fail_from [] sorted filled cut = tt
    fail_from ([] ∷ pages) sorted filled cut = absurd (omega (arith, filled.0))
    fail_from ((e ∷ es) ∷ pages) sorted filled cut =
        let first : p e.0 ≡ false = cut.1 0 e.0 (omega arith) (omega arith) in (
          first,
          each_weaker (λ d. key_cmp e.0 d.0 ≡ Less) (λ d. p d.0 ≡ false) (λ d less. upward p down e.0 d.0 less first) (es ++ all_pairs pages)
              (head_below key_cmp e (es ++ all_pairs pages) sorted),
        )

    -- the keys before one that passes do so
    pass_before : (page next rest : List (EntryKey × X)) → IsTrue (is_sorted key_cmp (page ++ (next ++ rest))) → 0 < length next
        → p (first_key next) ≡ true → AllByRecursion (λ e. p e.0 ≡ true) page
    pass_before page [] rest sorted some passes = absurd (omega arith)
    pass_before page (e ∷ es) rest sorted some passes =
        each_weaker (λ d. key_cmp d.0 e.0 ≡ Less) (λ d. p d.0 ≡ true) (λ d less. down d.0 e.0 less passes) page
        (front_below key_cmp page e (es ++ rest) sorted)

    pub rest_first : (pages : List (List (EntryKey × X))) → IsTrue (is_sorted key_cmp (all_pairs pages)) → AreFilled pages → IsCut p (map first_key pages) 0
        → filter (λ e. not (p e.0)) (all_pairs pages) ≡ all_pairs pages
    rest_first pages sorted filled cut = stay_all (all_pairs pages) (fail_from pages sorted filled cut)

    pub front_first : (pages : List (List (EntryKey × X))) → IsTrue (is_sorted key_cmp (all_pairs pages)) → AreFilled pages → IsCut p (map first_key pages) 0
        → filter (λ e. p e.0) (all_pairs pages) ≡ []
    front_first pages sorted filled cut = pass_none (all_pairs pages) (fail_from pages sorted filled cut)

    pub rest_later : (pages : List (List (EntryKey × X))) (k : ℕ) → k < length pages → IsTrue (is_sorted key_cmp (all_pairs pages)) → AreFilled pages
        → IsCut p (map first_key pages) (suc k)
        → filter (λ e. not (p e.0)) (all_pairs pages) ≡ filter (λ e. not (p e.0)) (get_or pages k []) ++ all_pairs (drop (suc k) pages)
    rest_later [] k within sorted filled cut = absurd (omega arith)
    rest_later (page ∷ pages) zero within sorted filled cut =
        filter-append (λ e. not (p e.0)) page (all_pairs pages)
        ∙ ap (λ rest. filter (λ e. not (p e.0)) page ++ rest)
        (rest_first pages (sorted_back key_cmp page (all_pairs pages) sorted) filled.1 (shift_suc p (first_key page) (map first_key pages) 0 cut))
    rest_later (page ∷ []) (suc k) within sorted filled cut = absurd (omega arith)
    rest_later (page ∷ next ∷ pages) (suc k) within sorted filled cut =
        filter-append (λ e. not (p e.0)) page (all_pairs (next ∷ pages))
        ∙ ap (λ gone. gone ++ filter (λ e. not (p e.0)) (all_pairs (next ∷ pages)))
        (stay_none page (pass_before page next (all_pairs pages) sorted filled.1.0 (cut.0 1 (first_key next) (omega arith) (omega arith))))
        ∙ rest_later (next ∷ pages) k (omega arith) (sorted_back key_cmp page (all_pairs (next ∷ pages)) sorted) filled.1
        (shift_suc p (first_key page) (map first_key (next ∷ pages)) (suc k) cut)

    pub front_later : (pages : List (List (EntryKey × X))) (k : ℕ) → k < length pages → IsTrue (is_sorted key_cmp (all_pairs pages)) → AreFilled pages
        → IsCut p (map first_key pages) (suc k)
        → filter (λ e. p e.0) (all_pairs pages) ≡ all_pairs (take k pages) ++ filter (λ e. p e.0) (get_or pages k [])
    front_later [] k within sorted filled cut = absurd (omega arith)
    front_later (page ∷ pages) zero within sorted filled cut =
        filter-append (λ e. p e.0) page (all_pairs pages)
        ∙ ap (λ rest. filter (λ e. p e.0) page ++ rest)
        (front_first pages (sorted_back key_cmp page (all_pairs pages) sorted) filled.1 (shift_suc p (first_key page) (map first_key pages) 0 cut))
        ∙ append-nil (filter (λ e. p e.0) page)
    front_later (page ∷ []) (suc k) within sorted filled cut = absurd (omega arith)
    front_later (page ∷ next ∷ pages) (suc k) within sorted filled cut =
        let later = front_later (next ∷ pages) k (omega arith) (sorted_back key_cmp page (all_pairs (next ∷ pages)) sorted) filled.1
        (shift_suc p (first_key page) (map first_key (next ∷ pages)) (suc k) cut) in
        let own = pass_all page (pass_before page next (all_pairs pages) sorted filled.1.0 (cut.0 1 (first_key next) (omega arith) (omega arith))) in
        filter-append (λ e. p e.0) page (all_pairs (next ∷ pages)) ∙ (λ i. own i ++ later i)
        ∙ sym (append_assoc page (all_pairs (take k (next ∷ pages))) (filter (λ e. p e.0) (get_or (next ∷ pages) k [])))

module _ {X : Type 0} where
  -- the first key from a page on is the fence of the page
  pub first_behind : (pages : List (List (EntryKey × X))) (n : ℕ) → AreFilled pages
      → option_map (λ e. e.0) (slice_get (all_pairs (drop n pages)) 0) ≡ slice_get (map first_key pages) n
  first_behind [] zero filled = refl
  first_behind [] (suc n) filled = refl
  first_behind ([] ∷ pages) zero filled = absurd (omega (arith, filled.0))
  first_behind ((e ∷ es) ∷ pages) zero filled = refl
  first_behind (page ∷ pages) (suc n) filled = first_behind pages n filled.1

  -- a page whose first key passes has a pair that does
  pub some_pass : (p : EntryKey → Bool) (page : List (EntryKey × X)) → 0 < length page → p (first_key page) ≡ true → 0 < length (filter (λ e. p e.0) page)
  some_pass p [] some passes = absurd (omega arith)
  some_pass p (e ∷ es) some passes = rw passes (omega arith)
