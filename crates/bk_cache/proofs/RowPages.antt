-- The pairs of all pages, by the page of a key: a look-up, an insertion, and the pairs from a key on.
use Rattle.std.proofs.Common.{◌≡◌, Bool, true, false, cond, List, [], ◌∷◌, ◌++◌, Some, None, unwrap_or, refl, sym, ap, subst, ◌∙◌}
use Rattle.std.specs.Bool.{IsTrue}
use Rattle.std.specs.declared.cmp.Ordering.TheVariants.{Less, Equal, Greater}
use Rattle.std.specs.Ordering.{eq_by_cmp, is_eq, is_lt, match_ordering}
use Rattle.std.specs.List.{AllByRecursion, filter}
use Rattle.std.specs.Map.{lookup, set_value}
use Rattle.std.specs.BTreeMap.{is_at, insert_entry}
use Rattle.std.specs.FinMap.{find, put, is_sorted}
use Rattle.std.specs.FinMap.Entries.{below_all, by_order}
use Rattle.std.proofs.lemmas.Bool.{and_parts}
use Rattle.std.proofs.lemmas.List.Elements.{filter-append}
use Rattle.bk_record.specs.Key.{EntryKey, key_cmp}
use Rattle.bk_record.proofs.Keys.{key_cmp_antisymmetric}
use Rattle.bk_record.proofs.SortedPairs.{Some-same, less_from_test}
use Rattle.bk_cache.specs.Rows.{page_of, all_pairs, IsPage}
use Rattle.bk_cache.proofs.PageOrder.{each_weaker, each_both, each_above, each_below, all_above, below_more}

module _ {X : Type 0} (key : EntryKey) where
  find_none : (es : List (EntryKey × X)) → AllByRecursion (λ e. eq_by_cmp key_cmp key e.0 ≡ false) es → find key_cmp key es ≡ None
  find_none [] each = refl
  find_none (e ∷ es) each = rw each.0 (find_none es each.1)

  find_above : (es : List (EntryKey × X)) → AllByRecursion (λ e. key_cmp key e.0 ≡ Less) es → find key_cmp key es ≡ None
  find_above es each = find_none es (each_weaker _ _ (λ e less. ap is_eq less) es each)

  find_below : (es : List (EntryKey × X)) → AllByRecursion (λ e. key_cmp key e.0 ≡ Greater) es → find key_cmp key es ≡ None
  find_below es each = find_none es (each_weaker _ _ (λ e greater. ap is_eq greater) es each)

  find_front : (xs ys : List (EntryKey × X)) → find key_cmp key ys ≡ None → find key_cmp key (xs ++ ys) ≡ find key_cmp key xs
  find_front [] ys none = none
  find_front (x ∷ xs) ys none = ap (cond (eq_by_cmp key_cmp key x.0) (Some x.1)) (find_front xs ys none)

  find_back : (xs ys : List (EntryKey × X)) → AllByRecursion (λ e. eq_by_cmp key_cmp key e.0 ≡ false) xs → find key_cmp key (xs ++ ys) ≡ find key_cmp key ys
  find_back [] ys each = refl
  find_back (x ∷ xs) ys each = rw each.0 (find_back xs ys each.1)

  put_front : (v : X) (es : List (EntryKey × X)) → AllByRecursion (λ e. key_cmp key e.0 ≡ Less) es → put key_cmp key v es ≡ (key, v) ∷ es
  put_front v [] each = refl
  put_front v (e ∷ es) each = rw each.0 refl

  put_before : (v : X) (xs ys : List (EntryKey × X)) → AllByRecursion (λ e. key_cmp key e.0 ≡ Less) ys → put key_cmp key v (xs ++ ys) ≡ put key_cmp key v xs ++ ys
  put_before v [] ys above = put_front v ys above
  put_before v (x ∷ xs) ys above =
      elim (key_cmp key x.0) as (λ r. by_order r ((key, v) ∷ x ∷ (xs ++ ys)) ((x.0, v) ∷ (xs ++ ys)) (x ∷ put key_cmp key v (xs ++ ys))
      ≡ by_order r ((key, v) ∷ x ∷ xs) ((x.0, v) ∷ xs) (x ∷ put key_cmp key v xs) ++ ys) [
        | Less ↦ refl
        | Equal ↦ refl
        | Greater ↦ ap (λ rest. x ∷ rest) (put_before v xs ys above)
      ]

  put_behind : (v : X) (xs ys : List (EntryKey × X)) → AllByRecursion (λ e. key_cmp key e.0 ≡ Greater) xs
      → put key_cmp key v (xs ++ ys) ≡ xs ++ put key_cmp key v ys
  put_behind v [] ys each = refl
  put_behind v (x ∷ xs) ys each = rw each.0 (ap (λ rest. x ∷ rest) (put_behind v xs ys each.1))

  -- the pairs of the page of the key
  abbrev pub page_at : List (EntryKey × List (EntryKey × X)) → List (EntryKey × X)
  page_at pages = unwrap_or (lookup (is_at (key_cmp (page_of key))) pages) []

  -- no page of the key is among higher ones
  lookup_above : (pages : List (EntryKey × List (EntryKey × X))) → IsTrue (below_all key_cmp (page_of key) pages)
      → lookup (is_at (key_cmp (page_of key))) pages ≡ None
  lookup_above [] below = refl
  lookup_above (page ∷ pages) below =
      let parts = and_parts _ _ below in
      let less : key_cmp (page_of key) page.0 ≡ Less = less_from_test _ parts.0 in
      rw less (lookup_above pages parts.1)

  own : (page : EntryKey × List (EntryKey × X)) → key_cmp (page_of key) page.0 ≡ Equal → page_of key ≡ page.0
  own page is = key_cmp_antisymmetric (page_of key) page.0 is

  module _ (page : EntryKey × List (EntryKey × X)) (pages : List (EntryKey × List (EntryKey × X))) (sorted : IsTrue (is_sorted key_cmp (page ∷ pages))) where
    -- pages behind the key's own
    behind_own : key_cmp (page_of key) page.0 ≡ Equal → IsTrue (below_all key_cmp (page_of key) pages)
    behind_own is = subst (λ (k : EntryKey). IsTrue (below_all key_cmp k pages)) (sym (own page is)) (and_parts _ _ sorted).0

    -- pages behind a higher one
    behind_higher : key_cmp (page_of key) page.0 ≡ Less → IsTrue (below_all key_cmp (page_of key) pages)
    behind_higher is = below_more (page_of key) page.0 pages is (and_parts _ _ sorted).0

    rest_sorted : IsTrue (is_sorted key_cmp pages)
    rest_sorted = (and_parts _ _ sorted).1

  -- a look-up among all pairs is one in the page of the key
  pub find_paged : (pages : List (EntryKey × List (EntryKey × X))) → IsTrue (is_sorted key_cmp pages) → AllByRecursion (λ page. IsPage page) pages
      → find key_cmp key (all_pairs pages) ≡ find key_cmp key (page_at pages)
  find_paged [] sorted each = refl
  find_paged (page ∷ pages) sorted each =
      let rest = find_paged pages (rest_sorted page pages sorted) each.1 in
      elim (key_cmp (page_of key) page.0) as (λ r. key_cmp (page_of key) page.0 ≡ r → find key_cmp key (page.1 ++ all_pairs pages)
      ≡ find key_cmp key (unwrap_or (cond (is_eq r) (Some page.1) (lookup (is_at (key_cmp (page_of key))) pages)) [])) [
        | Less ↦ λ is. find_back page.1 (all_pairs pages) (each_weaker _ _ (λ e less. ap is_eq less) page.1 (each_above key page each.0 is)) ∙ rest
        | Equal ↦ λ is. find_front page.1 (all_pairs pages) (find_above (all_pairs pages) (all_above key pages each.1 (behind_own page pages sorted is)))
        | Greater ↦ λ is. find_back page.1 (all_pairs pages) (each_weaker _ _ (λ e greater. ap is_eq greater) page.1 (each_below key page each.0 is)) ∙ rest
      ] refl

  -- a payload put into the page of the key is put into all pairs
  pub put_paged : (pages : List (EntryKey × List (EntryKey × X))) → IsTrue (is_sorted key_cmp pages) → AllByRecursion (λ page. IsPage page) pages
      → (v : X) (es : List (EntryKey × X)) → lookup (is_at (key_cmp (page_of key))) pages ≡ Some es
      → all_pairs (set_value (is_at (key_cmp (page_of key))) pages (put key_cmp key v es)) ≡ put key_cmp key v (all_pairs pages)
  put_paged [] sorted each v es there = cc
  put_paged (page ∷ pages) sorted each v es there =
      elim (key_cmp (page_of key) page.0) as (λ r. key_cmp (page_of key) page.0 ≡ r
      → cond (is_eq r) (Some page.1) (lookup (is_at (key_cmp (page_of key))) pages) ≡ Some es
      → all_pairs (cond (is_eq r) ((page.0, put key_cmp key v es) ∷ pages) (page ∷ set_value (is_at (key_cmp (page_of key))) pages (put key_cmp key v es)))
      ≡ put key_cmp key v (page.1 ++ all_pairs pages)) [
        | Less ↦ λ is has. let none = lookup_above pages (behind_higher page pages sorted is) in cc
        | Equal ↦ λ is has.
            let same : page.1 ≡ es = Some-same has in
            ap (λ xs. put key_cmp key v xs ++ all_pairs pages) (sym same)
            ∙ sym (put_before v page.1 (all_pairs pages) (all_above key pages each.1 (behind_own page pages sorted is)))
        | Greater ↦ λ is has.
            ap (λ rest. page.1 ++ rest) (put_paged pages (rest_sorted page pages sorted) each.1 v es has)
            ∙ sym (put_behind v page.1 (all_pairs pages) (each_below key page each.0 is))
      ] refl there

  -- a payload put into a new page is put into all pairs
  pub put_new_page : (pages : List (EntryKey × List (EntryKey × X))) → IsTrue (is_sorted key_cmp pages) → AllByRecursion (λ page. IsPage page) pages
      → (v : X) → lookup (is_at (key_cmp (page_of key))) pages ≡ None
      → all_pairs (insert_entry key_cmp pages (page_of key) ((key, v) ∷ [])) ≡ put key_cmp key v (all_pairs pages)
  put_new_page [] sorted each v none = refl
  put_new_page (page ∷ pages) sorted each v none =
      elim (key_cmp (page_of key) page.0) as (λ r. key_cmp (page_of key) page.0 ≡ r
      → cond (is_eq r) (Some page.1) (lookup (is_at (key_cmp (page_of key))) pages) ≡ None
      → all_pairs (match_ordering r ((page_of key, (key, v) ∷ []) ∷ page ∷ pages) ((page.0, (key, v) ∷ []) ∷ pages)
      (page ∷ insert_entry key_cmp pages (page_of key) ((key, v) ∷ [])))
      ≡ put key_cmp key v (page.1 ++ all_pairs pages)) [
        | Less ↦ λ is _. sym (put_front v (page.1 ++ all_pairs pages)
            (each_both _ page.1 (all_pairs pages) (each_above key page each.0 is) (all_above key pages each.1 (behind_higher page pages sorted is))))
        | Equal ↦ λ _ has. cc
        | Greater ↦ λ is lacks.
            ap (λ rest. page.1 ++ rest) (put_new_page pages (rest_sorted page pages sorted) each.1 v lacks)
            ∙ sym (put_behind v page.1 (all_pairs pages) (each_below key page each.0 is))
      ] refl none

  -- the pairs that pass a test: those of the key's page, and all of the pages behind it
  module _ (p : EntryKey → Bool) (before : (k : EntryKey) → key_cmp key k ≡ Greater → p k ≡ false) (behind : (k : EntryKey) → key_cmp key k ≡ Less → p k ≡ true) where
    keep_all : (es : List (EntryKey × X)) → AllByRecursion (λ e. key_cmp key e.0 ≡ Less) es → filter (λ e. p e.0) es ≡ es
    keep_all [] each = refl
    keep_all (e ∷ es) each = rw (behind e.0 each.0) (ap (λ rest. e ∷ rest) (keep_all es each.1))

    keep_none : (es : List (EntryKey × X)) → AllByRecursion (λ e. key_cmp key e.0 ≡ Greater) es → filter (λ e. p e.0) es ≡ []
    keep_none [] each = refl
    keep_none (e ∷ es) each = rw (before e.0 each.0) (keep_none es each.1)

    abbrev higher : List (EntryKey × List (EntryKey × X)) → List (EntryKey × List (EntryKey × X))
    higher pages = filter (λ page. is_lt (key_cmp (page_of key) page.0)) pages

    pub filter_paged : (pages : List (EntryKey × List (EntryKey × X))) → IsTrue (is_sorted key_cmp pages) → AllByRecursion (λ page. IsPage page) pages
        → filter (λ e. p e.0) (all_pairs pages) ≡ filter (λ e. p e.0) (page_at pages) ++ all_pairs (higher pages)
    filter_paged [] sorted each = refl
    filter_paged (page ∷ pages) sorted each =
        let rest = filter_paged pages (rest_sorted page pages sorted) each.1 in
        let split = filter-append (λ e. p e.0) page.1 (all_pairs pages) in
        elim (key_cmp (page_of key) page.0) as (λ r. key_cmp (page_of key) page.0 ≡ r → filter (λ e. p e.0) (page.1 ++ all_pairs pages)
        ≡ filter (λ e. p e.0) (unwrap_or (cond (is_eq r) (Some page.1) (lookup (is_at (key_cmp (page_of key))) pages)) [])
        ++ all_pairs (cond (is_lt r) (page ∷ higher pages) (higher pages))) [
          | Less ↦ λ is.
              let none : page_at pages ≡ [] = ap (λ o. unwrap_or o []) (lookup_above pages (behind_higher page pages sorted is)) in
              split ∙ ap (λ xs. xs ++ filter (λ e. p e.0) (all_pairs pages)) (keep_all page.1 (each_above key page each.0 is))
              ∙ ap (λ xs. page.1 ++ xs) (rest ∙ ap (λ xs. filter (λ e. p e.0) xs ++ all_pairs (higher pages)) none)
              ∙ ap (λ xs. filter (λ e. p e.0) xs ++ (page.1 ++ all_pairs (higher pages))) (sym none)
          | Equal ↦ λ is.
              let none : page_at pages ≡ [] = ap (λ o. unwrap_or o []) (lookup_above pages (behind_own page pages sorted is)) in
              split ∙ ap (λ xs. filter (λ e. p e.0) page.1 ++ xs) (rest ∙ ap (λ xs. filter (λ e. p e.0) xs ++ all_pairs (higher pages)) none)
          | Greater ↦ λ is.
              split ∙ ap (λ xs. xs ++ filter (λ e. p e.0) (all_pairs pages)) (keep_none page.1 (each_below key page each.0 is)) ∙ rest
        ] refl

-- a test of pages, on all pairs
pub filter_pages : {X : Type 0} (t : EntryKey → Bool) (pages : List (EntryKey × List (EntryKey × X))) → AllByRecursion (λ page. IsPage page) pages
    → filter (λ e. t (page_of e.0)) (all_pairs pages) ≡ all_pairs (filter (λ page. t page.0) pages)
filter_pages t [] each = refl
filter_pages {X} t (page ∷ pages) each =
    filter-append (λ e. t (page_of e.0)) page.1 (all_pairs pages) ∙ ap (λ xs. xs ++ filter (λ e. t (page_of e.0)) (all_pairs pages)) (one page.1 (each.0).home)
    ∙ elim (t page.0) as (λ b. cond b page.1 [] ++ filter (λ e. t (page_of e.0)) (all_pairs pages)
    ≡ all_pairs (cond b (page ∷ filter (λ page. t page.0) pages) (filter (λ page. t page.0) pages))) [
      | true ↦ ap (λ xs. page.1 ++ xs) (filter_pages t pages each.1)
      | false ↦ filter_pages t pages each.1
    ]
  where
    one : (es : List (EntryKey × X)) → AllByRecursion (λ e. page_of e.0 ≡ page.0) es → filter (λ e. t (page_of e.0)) es ≡ cond (t page.0) es []
    one [] home =
        elim (t page.0) as (λ b. ◌≡◌ {A = List (EntryKey × X)} [] (cond b [] [])) [ true ↦ refl | false ↦ refl ]
    one (e ∷ es) home =
        ap (λ k. cond (t k) (e ∷ filter (λ e. t (page_of e.0)) es) (filter (λ e. t (page_of e.0)) es)) home.0
        ∙ ap (λ xs. cond (t page.0) (e ∷ xs) xs) (one es home.1)
        ∙ elim (t page.0) as (λ b. cond b (e ∷ cond b es []) (cond b es []) ≡ cond b (e ∷ es) []) [ true ↦ refl | false ↦ refl ]
