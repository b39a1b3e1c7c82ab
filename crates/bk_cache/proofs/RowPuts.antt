-- A payload put into its page, or into a new one.
use Rattle.std.proofs.Common.{◌≡◌, ℕ, ◌<◌, Bool, true, false, cond, ◌&&◌, List, [], ◌∷◌, length, Option, Some, None, is_some, unwrap_or, Result, Ok, Err}
use Rattle.std.proofs.Common.{refl, sym, ap, subst, ◌∙◌, arith}
use Rattle.std.specs.declared.alloc.AllocError.{AllocError}
use Rattle.std.specs.declared.cmp.Ordering.{Ordering}
use Rattle.std.specs.declared.cmp.Ordering.TheVariants.{Less, Equal, Greater}
use Rattle.std.specs.Ordering.{is_eq, is_lt, match_ordering}
use Rattle.std.specs.Cmp.{Equal-is}
use Rattle.std.specs.List.{AllByRecursion}
use Rattle.std.specs.Map.{lookup, set_value}
use Rattle.std.specs.BTreeMap.{is_at, insert_entry}
use Rattle.std.specs.FinMap.{find, put, is_sorted}
use Rattle.std.specs.FinMap.Entries.{below_all, by_order}
use Rattle.bk_record.specs.Key.{EntryKey, key_cmp}
use Rattle.bk_record.proofs.Keys.{key_cmp_total, key_cmp_antisymmetric}
use Rattle.bk_record.proofs.SortedPairs.{Some-same, is_sorted_put}
use Rattle.bk_cache.specs.Recents.{Entry}
use Rattle.bk_cache.specs.Rows.{page_of, all_pairs, IsPage, ArePages, PutTransition}
use Rattle.bk_cache.proofs.Seen.{insert_entry-put}
use Rattle.bk_cache.proofs.RowPages.{find_paged, put_paged, put_new_page}

module _ {K X : Type 0} (R : K → K → Ordering) (test : K → Bool) (w : X) where
  below_set : (k : K) (es : List (K × X)) → below_all R k (set_value test es w) ≡ below_all R k es
  below_set k [] = refl
  below_set k (e ∷ es) = elim (test e.0) as (λ b. below_all R k (cond b ((e.0, w) ∷ es) (e ∷ set_value test es w)) ≡ below_all R k (e ∷ es)) [
    | true ↦ refl
    | false ↦ ap (λ b. is_lt (R k e.0) && b) (below_set k es)
  ]

  sorted_set : (es : List (K × X)) → is_sorted R (set_value test es w) ≡ is_sorted R es
  sorted_set [] = refl
  sorted_set (e ∷ es) = elim (test e.0) as (λ b. is_sorted R (cond b ((e.0, w) ∷ es) (e ∷ set_value test es w)) ≡ is_sorted R (e ∷ es)) [
    | true ↦ refl
    | false ↦ (λ i. below_set e.0 es i && sorted_set es i)
  ]

  -- the value that is there already
  set_same : (es : List (K × X)) → lookup test es ≡ Some w → set_value test es w ≡ es
  set_same [] there = refl
  set_same (e ∷ es) there =
      elim (test e.0) as (λ b. cond b (Some e.1) (lookup test es) ≡ Some w → cond b ((e.0, w) ∷ es) (e ∷ set_value test es w) ≡ e ∷ es) [
        | true ↦ λ is. (λ i. (e.0, sym (Some-same is) i) ∷ es)
        | false ↦ λ is. ap (λ rest. e ∷ rest) (set_same es is)
      ] there

module _ {X : Type 0} (key : EntryKey) (v : X) where
  filled_put : (es : List (EntryKey × X)) → 0 < length (put key_cmp key v es)
  filled_put [] = omega arith
  filled_put (e ∷ es) = elim (key_cmp key e.0) as (λ r. 0 < length (by_order r ((key, v) ∷ e ∷ es) ((e.0, v) ∷ es) (e ∷ put key_cmp key v es))) [
    | Less ↦ omega arith
    | Equal ↦ omega arith
    | Greater ↦ omega arith
  ]

  home_put : (P : EntryKey → Type 0) (es : List (EntryKey × X)) → P key → AllByRecursion (λ e. P e.0) es → AllByRecursion (λ e. P e.0) (put key_cmp key v es)
  home_put P [] own each = (own, tt)
  home_put P (e ∷ es) own each =
      elim (key_cmp key e.0) as (λ r. AllByRecursion (λ e. P e.0) (by_order r ((key, v) ∷ e ∷ es) ((e.0, v) ∷ es) (e ∷ put key_cmp key v es))) [
        | Less ↦ (own, each)
        | Equal ↦ (each.0, each.1)
        | Greater ↦ (each.0, home_put P es own each.1)
      ]

  page_put : (number : EntryKey) (es : List (EntryKey × X)) → page_of key ≡ number → IsPage (number, es) → IsPage (number, put key_cmp key v es)
  page_put number es own is =
      record { filled = filled_put es; sorted = is_sorted_put key_cmp_total key v es is.sorted; home = home_put (λ k. page_of k ≡ number) es own is.home }

  page_new : IsPage (page_of key, (key, v) ∷ [])
  page_new = record { filled = omega arith; sorted = refl; home = (refl, tt) }

  abbrev at : EntryKey → Bool
  at = is_at (key_cmp (page_of key))

  each_put : (pages : List (EntryKey × List (EntryKey × X))) (es : List (EntryKey × X)) → AllByRecursion (λ page. IsPage page) pages
      → lookup at pages ≡ Some es → AllByRecursion (λ page. IsPage page) (set_value at pages (put key_cmp key v es))
  each_put [] es each there = tt
  each_put (page ∷ pages) es each there =
      elim (is_eq (key_cmp (page_of key) page.0)) as (λ b. is_eq (key_cmp (page_of key) page.0) ≡ b → cond b (Some page.1) (lookup at pages) ≡ Some es
      → AllByRecursion (λ page. IsPage page) (cond b ((page.0, put key_cmp key v es) ∷ pages) (page ∷ set_value at pages (put key_cmp key v es)))) [
        | true ↦ λ tied is.
            let own = key_cmp_antisymmetric (page_of key) page.0 ((Equal-is (key_cmp (page_of key) page.0)).0 tied) in
            (page_put page.0 es own (subst (λ (xs : List (EntryKey × X)). IsPage (page.0, xs)) (Some-same is) each.0), each.1)
        | false ↦ λ _ is. (each.0, each_put pages es each.1 is)
      ] refl there

  each_new : (pages : List (EntryKey × List (EntryKey × X))) → AllByRecursion (λ page. IsPage page) pages → lookup at pages ≡ None
      → AllByRecursion (λ page. IsPage page) (insert_entry key_cmp pages (page_of key) ((key, v) ∷ []))
  each_new [] each none = (page_new, tt)
  each_new (page ∷ pages) each none =
      elim (key_cmp (page_of key) page.0) as (λ r. cond (is_eq r) (Some page.1) (lookup at pages) ≡ None → AllByRecursion (λ page. IsPage page)
      (match_ordering r ((page_of key, (key, v) ∷ []) ∷ page ∷ pages) ((page.0, (key, v) ∷ []) ∷ pages)
      (page ∷ insert_entry key_cmp pages (page_of key) ((key, v) ∷ [])))) [
        | Less ↦ λ _. (page_new, (each.0, each.1))
        | Equal ↦ λ is. cc
        | Greater ↦ λ is. (each.0, each_new pages each.1 is)
      ] none

module _ (pages : List (EntryKey × List Entry)) (are : ArePages pages) (key : EntryKey) (payload : List ℕ) (number : EntryKey) (number_is : number ≡ page_of key) where
  own_lookup : (o : Option (List Entry)) → o ≡ lookup (is_at (key_cmp number)) pages → lookup (is_at (key_cmp (page_of key))) pages ≡ o
  own_lookup o is = ap (λ (k : EntryKey). lookup (is_at (key_cmp k)) pages) (sym number_is) ∙ sym is

  in_page : (es : List Entry) → Some es ≡ lookup (is_at (key_cmp number)) pages → find key_cmp key (all_pairs pages) ≡ find key_cmp key es
  in_page es there = find_paged key pages are.sorted are.each ∙ ap (λ o. find key_cmp key (unwrap_or o [])) (own_lookup (Some es) there)

  -- through the page of the key
  module _ (es : List Entry) (there : Some es ≡ lookup (is_at (key_cmp number)) pages) (new : List (EntryKey × List Entry)) (fs : List Entry)
      (new_is : new ≡ set_value (is_at (key_cmp number)) pages fs) where
    written : new ≡ set_value (is_at (key_cmp (page_of key))) pages fs
    written = new_is ∙ ap (λ (k : EntryKey). set_value (is_at (key_cmp k)) pages fs) number_is

    unwritten : fs ≡ es → new ≡ pages
    unwritten same = new_is ∙ set_same key_cmp (is_at (key_cmp number)) fs pages (sym there ∙ ap Some (sym same))

    pub put_through : (result : Result Bool AllocError) → PutTransition es key payload result fs
        → PutTransition (all_pairs pages) key payload result (all_pairs new) × ArePages new
    put_through (Ok true) turn =
        let own = own_lookup (Some es) there in
        let put_is : new ≡ set_value (is_at (key_cmp (page_of key))) pages (put key_cmp key payload es) =
        written ∙ ap (set_value (is_at (key_cmp (page_of key))) pages) turn.1 in (
          (in_page es there ∙ turn.0, ap all_pairs put_is ∙ put_paged key pages are.sorted are.each payload es own),
          subst (λ ps. ArePages ps) (sym put_is) (record {
            sorted = sorted_set key_cmp (is_at (key_cmp (page_of key))) (put key_cmp key payload es) pages ∙ are.sorted;
            each = each_put key payload pages es are.each own;
          }),
        )
    put_through (Ok false) turn = (
      (ap is_some (in_page es there) ∙ turn.0, ap all_pairs (unwritten turn.1)),
      subst (λ ps. ArePages ps) (sym (unwritten turn.1)) are,
    )
    put_through (Err fault) turn = (
      (in_page es there ∙ turn.0, ap all_pairs (unwritten turn.1)),
      subst (λ ps. ArePages ps) (sym (unwritten turn.1)) are,
    )

  -- into a new page
  module _ (none : None ≡ lookup (is_at (key_cmp number)) pages) where
    pub absent_page : find key_cmp key (all_pairs pages) ≡ None
    absent_page = find_paged key pages are.sorted are.each ∙ ap (λ o. find key_cmp key (unwrap_or o [])) (own_lookup None none)

    module _ (new : List (EntryKey × List Entry)) (es : List Entry) (new_is : new ≡ insert_entry key_cmp pages number es) (es_is : es ≡ (key, payload) ∷ []) where
      inserted : new ≡ insert_entry key_cmp pages (page_of key) ((key, payload) ∷ [])
      inserted = new_is ∙ (λ i. insert_entry key_cmp pages (number_is i) (es_is i))

      pub put_new : all_pairs new ≡ put key_cmp key payload (all_pairs pages)
      put_new = ap all_pairs inserted ∙ put_new_page key pages are.sorted are.each payload (own_lookup None none)

      pub are_new : ArePages new
      are_new = subst (λ ps. ArePages ps) (sym inserted) (record {
        sorted =
            ap (is_sorted key_cmp) (insert_entry-put key_cmp pages (page_of key) ((key, payload) ∷ []))
            ∙ is_sorted_put key_cmp_total (page_of key) ((key, payload) ∷ []) pages are.sorted;
        each = each_new key payload pages are.each (own_lookup None none);
      })
