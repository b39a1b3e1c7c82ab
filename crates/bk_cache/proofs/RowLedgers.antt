-- The pages of one ledger: those that are taken, and the last one.
use Rattle.std.proofs.Common.{◌≡◌, ℕ, zero, suc, ◌+◌, ◌-◌, ◌<◌, Bool, true, false, cond, not, eqb, eqb-true, eq-eqb, List, [], ◌∷◌, ◌++◌, length, Option, Some, None, slice_get, IfSome}
use Rattle.std.proofs.Common.{refl, sym, ap, subst, ◌∙◌, arith, length-append, append-nil}
use Rattle.std.specs.Cmp.{Equal-is}
use Rattle.std.specs.List.{AllByRecursion, filter, sum_by}
use Rattle.std.specs.Map.{lookup, remove_entry, values_of}
use Rattle.std.specs.BTreeMap.{is_at}
use Rattle.std.specs.BTreeMap.Range.{entries_between}
use Rattle.std.specs.declared.ops.Bound.TheVariants.{Included, Unbounded}
use Rattle.std.specs.FinMap.{find}
use Rattle.std.proofs.lemmas.List.Elements.{filter-append}
use Rattle.std.proofs.lemmas.List.Sums.{sum_by-append}
use Rattle.std.proofs.lemmas.List.Concat.{flat_map-append}
use Rattle.bk_record.specs.Key.{EntryKey, key_cmp}
use Rattle.bk_record.proofs.Keys.{key_cmp_total, key_cmp_antisymmetric}
use Rattle.bk_record.proofs.SortedPairs.{Some-same, find_at}
use Rattle.bk_record.proofs.SortedMaps.{is_sorted-filter}
use Rattle.bk_cache.specs.Rows.{page_of, is_of_ledger, all_pairs, IsPage, ArePages}
use Rattle.bk_cache.proofs.RemovedPairs.{is_other, remove_entry-sorted}
use Rattle.bk_cache.proofs.LedgerKeys.{from_ledger, none_found, other_found}
use Rattle.bk_cache.proofs.RowPages.{filter_pages}
use Rattle.bk_cache.proofs.RowCache.{each_passing}

each_at : {A : Type 0} (P : A → Type 0) (es : List A) → ((i : ℕ) (e : A) → slice_get es i ≡ Some e → P e) → AllByRecursion P es
each_at P [] at = tt
each_at P (e ∷ es) at = (at zero e refl, each_at P es (λ i d is. at (suc i) d is))

-- whether a pair is of another ledger
abbrev pub other : {X : Type 0} → ℕ → EntryKey × X → Bool
other ledger e = not (eqb e.0.ledger ledger)

abbrev at_number : EntryKey → EntryKey → Bool
at_number number = is_at (key_cmp number)

module _ {X : Type 0} (ledger : ℕ) where
  -- pairs of the ledger, and pairs of other ledgers
  drop_own : (page : EntryKey × List (EntryKey × X)) → page.0.ledger ≡ ledger → (es : List (EntryKey × X))
      → AllByRecursion (λ e. page_of e.0 ≡ page.0) es → filter (other ledger) es ≡ []
  drop_own page is [] home = refl
  drop_own page is (e ∷ es) home =
      let same : e.0.ledger ≡ ledger = ap (λ (k : EntryKey). k.ledger) home.0 ∙ is in
      rw (eq-eqb e.0.ledger ledger same) (drop_own page is es home.1)

  keep_other : (page : EntryKey × List (EntryKey × X)) → (page.0.ledger ≡ ledger → ⊥) → (es : List (EntryKey × X))
      → AllByRecursion (λ e. page_of e.0 ≡ page.0) es → filter (other ledger) es ≡ es
  keep_other page apart [] home = refl
  keep_other page apart (e ∷ es) home =
      let differs : e.0.ledger ≡ ledger → ⊥ = λ same. apart (sym (ap (λ (k : EntryKey). k.ledger) home.0) ∙ same) in
      rw (unequal e.0.ledger ledger differs) (ap (λ rest. e ∷ rest) (keep_other page apart es home.1))
    where
      unequal : (a b : ℕ) → (a ≡ b → ⊥) → eqb a b ≡ false
      unequal a b apart = elim (eqb a b) as (λ t. eqb a b ≡ t → t ≡ false) [
        | true ↦ λ is. absurd (apart (eqb-true a b is))
        | false ↦ λ _. refl
      ] refl

  keep_others : (pages : List (EntryKey × List (EntryKey × X))) → AllByRecursion (λ page. IsPage page) pages
      → AllByRecursion (λ page. page.0.ledger ≡ ledger → ⊥) pages → filter (other ledger) (all_pairs pages) ≡ all_pairs pages
  keep_others [] each apart = refl
  keep_others (page ∷ pages) each apart =
      filter-append (other ledger) page.1 (all_pairs pages)
      ∙ (λ i. keep_other page apart.0 page.1 (each.0).home i ++ keep_others pages each.1 apart.1 i)

  module _ (pages : List (EntryKey × List (EntryKey × X))) (are : ArePages pages) (first : EntryKey) (first_is : first ≡ record { ledger = ledger; entry = 0 })
      (r : List (EntryKey × List (EntryKey × X))) (between : r ≡ entries_between key_cmp (Included first) Unbounded pages) where
    from_is : r ≡ from_ledger ledger pages
    from_is = between ∙ ap (λ (k : EntryKey). entries_between key_cmp (Included k) Unbounded pages) first_is

    held : (i : ℕ) (page : EntryKey × List (EntryKey × X)) → slice_get pages i ≡ Some page → find key_cmp page.0 pages ≡ Some page.1
    held i page is = find_at key_cmp_total pages i page.0 page.1 are.sorted is

    -- the ledger has no page
    pub none_left : r ≡ [] → filter (other ledger) (all_pairs pages) ≡ all_pairs pages
    none_left none = keep_others pages are.each (each_at _ pages (λ i page is own.
        none_found pages are.sorted ledger page.0 page.1 (held i page is) own (ap (λ es. slice_get es 0) (sym from_is ∙ none))))

    pub other_left : (page : EntryKey × List (EntryKey × X)) (rest : List (EntryKey × List (EntryKey × X))) → r ≡ page ∷ rest → (page.0.ledger ≡ ledger → ⊥)
        → filter (other ledger) (all_pairs pages) ≡ all_pairs pages
    other_left page rest is apart = keep_others pages are.each (each_at _ pages (λ i own_page at own.
        apart (other_found pages are.sorted ledger page own_page.0 own_page.1 (ap (λ es. slice_get es 0) (sym from_is ∙ is)) (held i own_page at) own)))

  -- a page of the ledger is removed
  module _ (number : EntryKey) (own : number.ledger ≡ ledger) where
    same : (page : EntryKey × List (EntryKey × X)) → at_number number page.0 ≡ true → page.0.ledger ≡ ledger
    same page tied = ap (λ (k : EntryKey). k.ledger) (sym (key_cmp_antisymmetric number page.0 ((Equal-is (key_cmp number page.0)).0 tied))) ∙ own

    pub others_stay : (pages : List (EntryKey × List (EntryKey × X))) → AllByRecursion (λ page. IsPage page) pages
        → filter (other ledger) (all_pairs (remove_entry (at_number number) pages)) ≡ filter (other ledger) (all_pairs pages)
    others_stay [] each = refl
    others_stay (page ∷ pages) each =
        elim (at_number number page.0) as (λ b. at_number number page.0 ≡ b → filter (other ledger) (all_pairs (cond b pages (page ∷ remove_entry (at_number number) pages))) ≡ filter (other ledger) (page.1 ++ all_pairs pages)) [
          | true ↦ λ tied. sym (filter-append (other ledger) page.1 (all_pairs pages)
              ∙ ap (λ xs. xs ++ filter (other ledger) (all_pairs pages)) (drop_own page (same page tied) page.1 (each.0).home))
          | false ↦ λ _.
              filter-append (other ledger) page.1 (all_pairs (remove_entry (at_number number) pages)) ∙ ap (λ xs. filter (other ledger) page.1 ++ xs) (others_stay pages each.1)
              ∙ sym (filter-append (other ledger) page.1 (all_pairs pages))
        ] refl

-- a measure of all pairs without those of a page
module _ {X : Type 0} (test : EntryKey → Bool) (size : List (EntryKey × X) → ℕ) (adds : (xs ys : List (EntryKey × X)) → size (xs ++ ys) ≡ size xs + size ys) where
  size_taken : (pages : List (EntryKey × List (EntryKey × X))) (es : List (EntryKey × X)) → lookup test pages ≡ Some es
      → size (all_pairs (remove_entry test pages)) + size es ≡ size (all_pairs pages)
  size_taken [] es there = cc
  size_taken (page ∷ pages) es there =
      elim (test page.0) as (λ b. cond b (Some page.1) (lookup test pages) ≡ Some es
      → size (all_pairs (cond b pages (page ∷ remove_entry test pages))) + size es ≡ size (page.1 ++ all_pairs pages)) [
        | true ↦ λ is. omega (arith, adds page.1 (all_pairs pages), ap size (Some-same is))
        | false ↦ λ is. omega (arith, adds page.1 (all_pairs pages), adds page.1 (all_pairs (remove_entry test pages)), size_taken pages es is)
      ] there

  pub size_gone : (pages : List (EntryKey × List (EntryKey × X))) (new : List (EntryKey × List (EntryKey × X))) → new ≡ remove_entry test pages
      → (o : Option (List (EntryKey × X))) → o ≡ lookup test pages → IfSome o (λ es. size (all_pairs new) + size es ≡ size (all_pairs pages))
  size_gone pages new new_is None is = tt
  size_gone pages new new_is (Some es) is = ap (λ ps. size (all_pairs ps) + size es) new_is ∙ size_taken pages es (sym is)

values_of-append : {X : Type 0} (xs ys : List (EntryKey × X)) → values_of (xs ++ ys) ≡ values_of xs ++ values_of ys
values_of-append [] ys = refl
values_of-append (x ∷ xs) ys = ap (λ rest. x.1 ∷ rest) (values_of-append xs ys)

pub bytes_add : (xs ys : List (EntryKey × List ℕ)) → sum_by length (values_of (xs ++ ys)) ≡ sum_by length (values_of xs) + sum_by length (values_of ys)
bytes_add xs ys = ap (sum_by length) (values_of-append xs ys) ∙ sum_by-append length (values_of xs) (values_of ys)

pub are_taken : {X : Type 0} (pages : List (EntryKey × List (EntryKey × X))) → ArePages pages → (number : EntryKey) → ArePages (remove_entry (is_at (key_cmp number)) pages)
are_taken pages are number = subst (λ ps. ArePages ps) (sym (remove_entry-sorted number pages are.sorted)) (record {
  sorted = is_sorted-filter key_cmp pages are.sorted (is_other number);
  each = each_passing (λ page. IsPage page) (λ page. is_other number page.0) pages are.each;
})

-- ---- the last pair of a ledger

last_append : {A : Type 0} (xs ys : List A) → 0 < length ys → slice_get (xs ++ ys) (length (xs ++ ys) - 1) ≡ slice_get ys (length ys - 1)
last_append [] ys some = refl
last_append (x ∷ xs) ys some =
    let behind : length (x ∷ (xs ++ ys)) - 1 ≡ suc (length (xs ++ ys) - 1) = omega (arith, length-append xs ys) in
    ap (slice_get (x ∷ (xs ++ ys))) behind ∙ last_append xs ys some

each_last : {A : Type 0} (P : A → Type 0) (xs : List A) (y : A) → AllByRecursion P (xs ++ y ∷ []) → P y
each_last P [] y each = each.0
each_last P (x ∷ xs) y each = each_last P xs y each.1

module _ {X : Type 0} (pages : List (EntryKey × List (EntryKey × X))) (are : ArePages pages) (ledger : ℕ) (r : List (EntryKey × List (EntryKey × X)))
    (between : r ≡ filter (λ page. is_of_ledger ledger page.0) pages) where
  abbrev pub own_pairs : List (EntryKey × X)
  own_pairs = filter (λ e. is_of_ledger ledger (page_of e.0)) (all_pairs pages)

  own_is : own_pairs ≡ all_pairs r
  own_is = filter_pages (λ k. is_of_ledger ledger k) pages are.each ∙ ap all_pairs (sym between)

  own_each : AllByRecursion (λ page. IsPage page) r
  own_each = subst (λ ps. AllByRecursion (λ page. IsPage page) ps) (sym between)
      (each_passing (λ page. IsPage page) (λ page. is_of_ledger ledger page.0) pages are.each)

  pub none_last : r ≡ [] → slice_get own_pairs (length own_pairs - 1) ≡ None
  none_last none = ap (λ (es : List (EntryKey × X)). slice_get es (length es - 1)) (own_is ∙ ap all_pairs none)

  pub last_paged : (front : List (EntryKey × List (EntryKey × X))) (page : EntryKey × List (EntryKey × X)) → r ≡ front ++ page ∷ []
      → slice_get own_pairs (length own_pairs - 1) ≡ slice_get page.1 (length page.1 - 1)
  last_paged front page is =
      let joined : own_pairs ≡ all_pairs front ++ page.1 =
      own_is ∙ ap all_pairs is ∙ flat_map-append (λ (page : EntryKey × List (EntryKey × X)). page.1) front (page ∷ []) ∙ ap (λ xs. all_pairs front ++ xs) (append-nil page.1) in
      let filled : IsPage page = each_last (λ page. IsPage page) front page (subst (λ ps. AllByRecursion (λ page. IsPage page) ps) is own_each) in
      ap (λ (es : List (EntryKey × X)). slice_get es (length es - 1)) joined ∙ last_append (all_pairs front) page.1 filled.filled
