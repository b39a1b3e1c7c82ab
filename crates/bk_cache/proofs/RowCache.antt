-- Look-ups among the pages of a write cache, and its first pairs.
use Rattle.std.proofs.Common.{◌≡◌, ◌<◌, Bool, true, false, cond, List, [], ◌∷◌, ◌++◌, length, Option, Some, None, unwrap_or, slice_get, refl, sym, ap, ◌∙◌, arith}
use Rattle.std.specs.declared.cmp.Ordering.TheVariants.{Less, Greater}
use Rattle.std.specs.Ordering.{is_lt}
use Rattle.std.specs.List.{AllByRecursion, filter}
use Rattle.std.specs.Map.{lookup}
use Rattle.std.specs.BTreeMap.{is_at}
use Rattle.std.specs.BTreeMap.Range.{entries_between}
use Rattle.std.specs.declared.ops.Bound.TheVariants.{Excluded, Unbounded}
use Rattle.std.specs.FinMap.{find}
use Rattle.std.proofs.Math.Bool.{and-true}
use Rattle.bk_record.specs.Key.{EntryKey, key_cmp}
use Rattle.bk_record.proofs.SortedPairs.{Some-same}
use Rattle.bk_cache.specs.Rows.{page_of, all_pairs, IsPage, ArePages}
use Rattle.bk_cache.proofs.RowPages.{page_at, find_paged, filter_paged, filter_pages}

-- the first of two lists joined
first_front : {A : Type 0} (xs ys : List A) → 0 < length xs → slice_get (xs ++ ys) 0 ≡ slice_get xs 0
first_front [] ys some = absurd (omega arith)
first_front (x ∷ xs) ys some = refl

first_some : {A : Type 0} (xs ys : List A) (x : A) → Some x ≡ slice_get xs 0 → slice_get (xs ++ ys) 0 ≡ Some x
first_some [] ys x has = cc
first_some (y ∷ xs) ys x has = sym has

first_none : {A : Type 0} (xs ys : List A) → slice_get xs 0 ≡ None → slice_get (xs ++ ys) 0 ≡ slice_get ys 0
first_none [] ys none = refl
first_none (x ∷ xs) ys none = cc

pub each_passing : {A : Type 0} (P : A → Type 0) (p : A → Bool) (xs : List A) → AllByRecursion P xs → AllByRecursion P (filter p xs)
each_passing P p [] each = tt
each_passing P p (x ∷ xs) each = elim (p x) as (λ b. AllByRecursion P (cond b (x ∷ filter p xs) (filter p xs))) [
  | true ↦ (each.0, each_passing P p xs each.1)
  | false ↦ each_passing P p xs each.1
]

module _ {X : Type 0} (pages : List (EntryKey × List (EntryKey × X))) (are : ArePages pages) where
  -- the first pair of all is that of the first page
  first_of_pages : (list : List (EntryKey × List (EntryKey × X))) → AllByRecursion (λ page. IsPage page) list → (page : EntryKey × List (EntryKey × X))
      → slice_get list 0 ≡ Some page → slice_get (all_pairs list) 0 ≡ slice_get page.1 0
  first_of_pages [] each page is = cc
  first_of_pages (one ∷ list) each page is =
      first_front one.1 (all_pairs list) (each.0).filled ∙ ap (λ (page : EntryKey × List (EntryKey × X)). slice_get page.1 0) (Some-same is)

  pub first_paged : (page : EntryKey × List (EntryKey × X)) → slice_get pages 0 ≡ Some page → slice_get (all_pairs pages) 0 ≡ slice_get page.1 0
  first_paged page is = first_of_pages pages are.each page is

  -- the pairs of the pages behind a number
  module _ (number : EntryKey) where
    abbrev pub behind : List (EntryKey × X)
    behind = filter (λ e. is_lt (key_cmp number (page_of e.0))) (all_pairs pages)

    abbrev higher : List (EntryKey × List (EntryKey × X))
    higher = filter (λ page. is_lt (key_cmp number page.0)) pages

    behind_higher : behind ≡ all_pairs higher
    behind_higher = filter_pages (λ k. is_lt (key_cmp number k)) pages are.each

    between_higher : entries_between key_cmp (Excluded number) Unbounded pages ≡ higher
    between_higher = λ i. filter (λ (page : EntryKey × List (EntryKey × X)). and-true (is_lt (key_cmp number page.0)) i) pages

    module _ (r : List (EntryKey × List (EntryKey × X))) (between : r ≡ entries_between key_cmp (Excluded number) Unbounded pages) where
      pub none_behind : r ≡ [] → slice_get behind 0 ≡ None
      none_behind none = ap (λ es. slice_get es 0) (behind_higher ∙ ap all_pairs (sym between_higher ∙ sym between ∙ none))

      pub first_behind : (page : EntryKey × List (EntryKey × X)) (rest : List (EntryKey × List (EntryKey × X))) → r ≡ page ∷ rest
          → slice_get behind 0 ≡ slice_get page.1 0
      first_behind page rest is =
          ap (λ es. slice_get es 0) behind_higher
          ∙ first_of_pages higher (each_passing (λ page. IsPage page) (λ page. is_lt (key_cmp number page.0)) pages are.each) page
          (ap (λ list. slice_get list 0) (sym between_higher ∙ sym between ∙ is))

  module _ (key number : EntryKey) (number_is : number ≡ page_of key) (o : Option (List (EntryKey × X))) (is : o ≡ lookup (is_at (key_cmp number)) pages) where
    here : unwrap_or o [] ≡ page_at key pages
    here = ap (λ o. unwrap_or o []) (is ∙ ap (λ (k : EntryKey). lookup (is_at (key_cmp k)) pages) number_is)

    -- a look-up of the page and then in it
    pub found_there : find key_cmp key (unwrap_or o []) ≡ find key_cmp key (all_pairs pages)
    found_there = ap (find key_cmp key) here ∙ sym (find_paged key pages are.sorted are.each)

    -- the first pair that passes a test is in the page of the key, or behind it
    module _ (p : EntryKey → Bool) (before : (k : EntryKey) → key_cmp key k ≡ Greater → p k ≡ false) (above : (k : EntryKey) → key_cmp key k ≡ Less → p k ≡ true) where
      parts : filter (λ e. p e.0) (all_pairs pages) ≡ filter (λ e. p e.0) (unwrap_or o []) ++ behind number
      parts =
          filter_paged key p before above pages are.sorted are.each
          ∙ (λ i. filter (λ (e : EntryKey × X). p e.0) (sym here i) ++ (ap all_pairs (ap (λ (k : EntryKey). filter (λ (page : EntryKey × List (EntryKey × X)). is_lt (key_cmp k page.0)) pages) (sym number_is)) ∙ sym (behind_higher number)) i)

      pub first_in_page : (x : EntryKey × X) → Some x ≡ slice_get (filter (λ e. p e.0) (unwrap_or o [])) 0
          → Some x ≡ slice_get (filter (λ e. p e.0) (all_pairs pages)) 0
      first_in_page x has = sym (ap (λ es. slice_get es 0) parts ∙ first_some (filter (λ e. p e.0) (unwrap_or o [])) (behind number) x has)

      pub first_past_page : None ≡ slice_get (filter (λ e. p e.0) (unwrap_or o [])) 0
          → slice_get (filter (λ e. p e.0) (all_pairs pages)) 0 ≡ slice_get (behind number) 0
      first_past_page none = ap (λ es. slice_get es 0) parts ∙ first_none (filter (λ e. p e.0) (unwrap_or o [])) (behind number) (sym none)
