-- The first key of the pages that does not pass a test, and the last one that does, by the number of
-- fences that pass it.
use Rattle.std.proofs.Common.{◌≡◌, ℕ, zero, suc, ◌-◌, ◌<◌, ◌≤◌, Bool, true, not, List, [], ◌∷◌, ◌++◌, length, get_or, take, drop, map, Option, Some, None, slice_get, option_map}
use Rattle.std.proofs.Common.{refl, sym, ap, subst, ◌∙◌, arith}
use Rattle.std.specs.Bool.{IsTrue}
use Rattle.std.specs.declared.cmp.Ordering.TheVariants.{Less}
use Rattle.std.specs.Ordering.{is_lt}
use Rattle.std.specs.Option.{MatchOption, IfSome, option_copied}
use Rattle.std.specs.List.{filter}
use Rattle.std.specs.List.Sorted.{IsPartitionedBy}
use Rattle.std.specs.FinMap.{is_sorted}
use Rattle.std.proofs.lemmas.List.{get_or-map, get_or-take, length-take-le}
use Rattle.std.proofs.lemmas.Option.{slice_get_within, slice_get_past, slice_get-get_or, get_or_from_slice_get}
use denote.Ref.{Bor}
use Rattle.bk_record.specs.Key.{EntryKey, key_cmp}
use Rattle.bk_record.proofs.Keys.{key_cmp_total}
use Rattle.bk_index.specs.Pages.{first_key, all_pairs, AreFenced}
use Rattle.bk_index.proofs.CutPairs.{head_below, sorted_back}
use Rattle.bk_index.proofs.RisingFences.{IsDownward, each_at, all_filled}
use Rattle.bk_index.proofs.OrderedKeys.{named, unnamed, empty_last, less_of}
use Rattle.bk_index.proofs.OrderedPages.{IsCut, head_front, head_behind, last_behind, rest_first, front_first, rest_later, front_later, first_behind, some_pass}

pub head_of_drop : {A : Type 0} (xs : List A) (n : ℕ) → slice_get (drop n xs) 0 ≡ slice_get xs n
head_of_drop [] zero = refl
head_of_drop [] (suc n) = refl
head_of_drop (x ∷ xs) zero = refl
head_of_drop (x ∷ xs) (suc n) = head_of_drop xs n

-- what a read at a place of a list copies
pub copied_at : {A : Type 0} (r : Option (Bor A)) (xs : List A) (n : ℕ) → MatchOption r (length xs ≤ n) (λ x. n < length xs)
    → IfSome r (λ x. x.now ≡ get_or xs n x.now) → option_copied r ≡ slice_get xs n
copied_at None xs n past is = sym (slice_get_past xs n past)
copied_at (Some x) xs n within is = sym (slice_get-get_or xs n x.now within ∙ ap (λ y. Some y) (sym is))

pub within_of : {A : Type 0} (P : A → Type 0) (r : Option (Bor A)) (xs : List A) (n : ℕ)
    → MatchOption r (length xs ≤ n) (λ x. (n < length xs) × P x.now) → MatchOption r (length xs ≤ n) (λ x. n < length xs)
within_of P None xs n past = past
within_of P (Some x) xs n within = within.0

-- the keys before a key are a beginning of all keys
pub is_downward_before : (q : EntryKey) → IsDownward (λ k. is_lt (key_cmp k q))
is_downward_before q a b less passes = rw (key_cmp_total.trans a b q less (less_of b q passes)) refl

module _ {X : Type 0} (p : EntryKey → Bool) (down : IsDownward p) where
  -- sorted pairs are parted by a test that passes for the smaller keys
  pub pairs_parted : (es : List (EntryKey × X)) → IsTrue (is_sorted key_cmp es) → IsPartitionedBy (λ e. p e.0) es
  pairs_parted [] sorted i j d order within passes = absurd (omega arith)
  pairs_parted (e ∷ es) sorted zero zero d order within passes = passes
  pairs_parted (e ∷ es) sorted zero (suc j) d order within passes =
      down e.0 (get_or es j d).0 (each_at (λ f. key_cmp e.0 f.0 ≡ Less) es j d (head_below key_cmp e es sorted) (omega arith)) passes
  pairs_parted (e ∷ es) sorted (suc i) zero d order within passes = absurd (omega arith)
  pairs_parted (e ∷ es) sorted (suc i) (suc j) d order within passes =
      pairs_parted es (sorted_back key_cmp (e ∷ []) es sorted) i j d (omega arith) (omega arith) passes

module _ {X : Type 0} (fences : List EntryKey) (pages : List (List (EntryKey × X))) (are : AreFenced fences pages)
    (sorted : IsTrue (is_sorted key_cmp (all_pairs pages))) (p : EntryKey → Bool) (down : IsDownward p) (n : ℕ) (bound : n ≤ length pages)
    (cut : IsCut p fences n) where
  page_cut : IsCut p (map first_key pages) n
  page_cut = subst (λ fs. IsCut p fs n) are.fenced cut

  -- no page begins with a key that passes
  none_begins : None ≡ slice_get (take n pages) (length (take n pages) - 1) → n ≡ 0
  none_begins none =
      let empty = empty_last (take n pages) (sym none) in
      omega (arith, ap length empty, length-take-le n pages bound)

  pub rest_of_all : None ≡ slice_get (take n pages) (length (take n pages) - 1)
      → option_map (λ e. e.0) (slice_get (filter (λ e. not (p e.0)) (all_pairs pages)) 0) ≡ slice_get fences n
  rest_of_all none =
      let start = none_begins none in
      ap (λ es. option_map (λ e. e.0) (slice_get es 0))
      (rest_first p down pages sorted (all_filled pages are.sizes) (subst (λ k. IsCut p (map first_key pages) k) start page_cut))
      ∙ first_behind pages 0 (all_filled pages are.sizes) ∙ ap (slice_get (map first_key pages)) (sym start) ∙ ap (λ fs. slice_get fs n) (sym are.fenced)

  pub front_of_all : None ≡ slice_get (take n pages) (length (take n pages) - 1) → filter (λ e. p e.0) (all_pairs pages) ≡ []
  front_of_all none =
      front_first p down pages sorted (all_filled pages are.sizes) (subst (λ k. IsCut p (map first_key pages) k) (none_begins none) page_cut)

  -- the last page that begins with a key that passes
  module _ (page : List (EntryKey × X)) (is : Some page ≡ slice_get (take n pages) (length (take n pages) - 1)) where
    some_pages : 0 < n
    some_pages =
        let within = slice_get_within (take n pages) (length (take n pages) - 1) page (sym is) in
        omega (arith, within, length-take-le n pages bound)

    before : n ≡ suc (n - 1)
    before = omega (arith, some_pages)

    page_is : page ≡ get_or pages (n - 1) []
    page_is =
        let some = some_pages in
        let at : slice_get (take n pages) (n - 1) ≡ Some page = ap (λ k. slice_get (take n pages) (k - 1)) (sym (length-take-le n pages bound)) ∙ sym is in
        sym (get_or_from_slice_get (take n pages) (n - 1) page [] at) ∙ get_or-take n pages (n - 1) [] (omega arith)

    cut_before : IsCut p (map first_key pages) (suc (n - 1))
    cut_before = subst (λ k. IsCut p (map first_key pages) k) before page_cut

    rest_parts : filter (λ e. not (p e.0)) (all_pairs pages) ≡ filter (λ e. not (p e.0)) page ++ all_pairs (drop n pages)
    rest_parts =
        let some = some_pages in
        let own = sym page_is in
        let back = sym before in
        rest_later p down pages (n - 1) (omega arith) sorted (all_filled pages are.sizes) cut_before
        ∙ (λ i. filter (λ e. not (p e.0)) (own i) ++ all_pairs (drop (back i) pages))

    pub rest_in_page : (k : EntryKey) → Some k ≡ option_map (λ e. e.0) (slice_get (filter (λ e. not (p e.0)) page) 0)
        → Some k ≡ option_map (λ e. e.0) (slice_get (filter (λ e. not (p e.0)) (all_pairs pages)) 0)
    rest_in_page k found =
        let x = named k _ found in
        found ∙ ap (option_map (λ e. e.0)) (x.1 ∙ sym (ap (λ es. slice_get es 0) rest_parts ∙ head_front (filter (λ e. not (p e.0)) page) _ x.0 x.1))

    pub rest_behind_page : None ≡ option_map (λ e. e.0) (slice_get (filter (λ e. not (p e.0)) page) 0)
        → option_map (λ e. e.0) (slice_get (filter (λ e. not (p e.0)) (all_pairs pages)) 0) ≡ slice_get fences n
    rest_behind_page none =
        ap (option_map (λ e. e.0)) (ap (λ es. slice_get es 0) rest_parts ∙ head_behind (filter (λ e. not (p e.0)) page) _ (unnamed _ none))
        ∙ first_behind pages n (all_filled pages are.sizes) ∙ ap (λ fs. slice_get fs n) (sym are.fenced)

    pub front_in_page : slice_get (filter (λ e. p e.0) page) (length (filter (λ e. p e.0) page) - 1)
        ≡ slice_get (filter (λ e. p e.0) (all_pairs pages)) (length (filter (λ e. p e.0) (all_pairs pages)) - 1)
    front_in_page =
        let some = some_pages in
        let parts = front_later p down pages (n - 1) (omega arith) sorted (all_filled pages are.sizes) cut_before
        ∙ ap (λ own. all_pairs (take (n - 1) pages) ++ filter (λ e. p e.0) own) (sym page_is) in
        let first : p (first_key page) ≡ true =
        ap (λ own. p (first_key own)) page_is ∙ ap p (sym (get_or-map first_key pages (n - 1) [] (first_key page) (omega arith)))
        ∙ page_cut.0 (n - 1) (first_key page) (omega arith) (omega arith) in
        let sized = are.sizes (n - 1) [] (omega arith) in
        let long : 0 < length page = omega (arith, sized.0, ap length page_is) in
        sym (ap (λ es. slice_get es (length es - 1)) parts ∙ last_behind (all_pairs (take (n - 1) pages)) (filter (λ e. p e.0) page) (some_pass p page long first))
