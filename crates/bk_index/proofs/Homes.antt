-- The page of a key: the key is found or inserted only there, and a split page keeps its pairs.
use Rattle.std.proofs.Common.{◌≡◌, ℕ, zero, suc, ◌<◌, ◌≤◌, true, false, List, [], ◌∷◌, ◌++◌, length, get_or, set, map, refl, sym, ap, ◌∙◌, arith}
use Rattle.std.proofs.Common.{append_assoc}
use Rattle.std.specs.declared.cmp.Ordering.{Ordering}
use Rattle.std.specs.declared.cmp.Ordering.TheVariants.{Less, Equal, Greater}
use Rattle.std.specs.Ordering.{is_le, ordering_reverse}
use Rattle.std.specs.Bool.{IsTrue}
use Rattle.std.specs.List.{AllByRecursion, insert}
use Rattle.std.specs.FinMap.{find, put, is_sorted}
use Rattle.bk_record.specs.Key.{EntryKey, key_cmp}
use Rattle.bk_index.specs.Pages.{first_key, all_pairs, IsHome}
use Rattle.bk_record.proofs.Keys.{key_cmp_total}
use Rattle.bk_index.proofs.CutPairs.{each_weaker, head_below, sorted_back, front_below, find_behind, find_before, put_behind, put_before}

pub below_key : (q k f : EntryKey) → key_cmp k f ≡ Less → is_le (key_cmp f q) ≡ true → key_cmp k q ≡ Less
below_key q k f less before =
    elim (key_cmp f q) as (λ r. key_cmp f q ≡ r → is_le r ≡ true → key_cmp k q ≡ Less) [
      | Less ↦ λ is _. key_cmp_total.trans k f q less is
      | Equal ↦ λ is _. key_cmp_total.antisymm k q ∙ ap ordering_reverse (sym (key_cmp_total.congr f q k is) ∙ key_cmp_total.antisymm f k
          ∙ ap ordering_reverse less)
      | Greater ↦ λ is no. cc
    ] refl before

module _ {X : Type 0} (q : EntryKey) where
  pub find_home : (pages : List (List (EntryKey × X))) (at : ℕ) → IsHome q pages at → find key_cmp q (all_pairs pages) ≡ find key_cmp q (get_or pages at [])
  find_home [] at home = refl
  find_home (page ∷ pages) zero home = find_before key_cmp_total q page (all_pairs pages) home
  find_home (page ∷ pages) (suc at) home = find_behind key_cmp_total q page (all_pairs pages) home.0 ∙ find_home pages at home.1

  pub put_home : (v : X) (pages : List (List (EntryKey × X))) (at : ℕ) → at < length pages → IsHome q pages at → put key_cmp q v (all_pairs pages)
      ≡ all_pairs (set pages at (put key_cmp q v (get_or pages at [])))
  put_home v [] at within home = absurd (omega arith)
  put_home v (page ∷ pages) zero within home = put_before key_cmp_total q v page (all_pairs pages) home
  put_home v (page ∷ pages) (suc at) within home =
      put_behind key_cmp_total q v page (all_pairs pages) home.0 ∙ ap (λ rest. page ++ rest) (put_home v pages at (omega arith) home.1)

  above_fence : (page : List (EntryKey × X)) (pages : List (List (EntryKey × X))) → IsTrue (is_sorted key_cmp (all_pairs (page ∷ pages))) → 0 < length page
      → key_cmp (first_key page) q ≡ Greater → AllByRecursion (λ pair. key_cmp q pair.0 ≡ Less) (all_pairs (page ∷ pages))
  above_fence [] pages sorted some greater = absurd (omega arith)
  above_fence (e ∷ es) pages sorted some greater =
      let first : key_cmp q e.0 ≡ Less = key_cmp_total.antisymm q e.0 ∙ ap ordering_reverse greater in (
        first,
        each_weaker _ _ (λ d less. key_cmp_total.trans q e.0 d.0 first less) (es ++ all_pairs pages)
            (head_below key_cmp e (es ++ all_pairs pages) sorted),
      )

  below_fence : (front : List (EntryKey × X)) (page : List (EntryKey × X)) (rest : List (EntryKey × X)) → IsTrue (is_sorted key_cmp (front ++ (page ++ rest)))
      → 0 < length page → is_le (key_cmp (first_key page) q) ≡ true → AllByRecursion (λ pair. key_cmp pair.0 q ≡ Less) front
  below_fence front [] rest sorted some before = absurd (omega arith)
  below_fence front (e ∷ es) rest sorted some before =
      each_weaker _ _ (λ d less. below_key q d.0 e.0 less before) front (front_below key_cmp front e (es ++ rest) sorted)

not_le : (r : Ordering) → is_le r ≡ false → r ≡ Greater
not_le Less is = cc
not_le Equal is = cc
not_le Greater is = refl

-- no page is empty
abbrev pub AreFilled : {X : Type 0} → List (List (EntryKey × X)) → Type 0
AreFilled pages = AllByRecursion (λ page. 0 < length page) pages

module _ {X : Type 0} (q : EntryKey) where
  -- the fences before this place are not greater than the key, those from it on are
  pub record IsFenceFor (pages : List (List (EntryKey × X))) (at : ℕ) : Type 0 where
    pub not_behind : (i : ℕ) (d : EntryKey) → i < at → is_le (key_cmp (get_or (map first_key pages) i d) q) ≡ true
    pub behind : (i : ℕ) (d : EntryKey) → at ≤ i → i < length pages → is_le (key_cmp (get_or (map first_key pages) i d) q) ≡ false

  all_above : (pages : List (List (EntryKey × X))) → IsTrue (is_sorted key_cmp (all_pairs pages)) → AreFilled pages → IsFenceFor pages 0
      → AllByRecursion (λ pair. key_cmp q pair.0 ≡ Less) (all_pairs pages)
  all_above [] sorted filled fence = tt
  all_above (page ∷ pages) sorted filled fence =
      above_fence q page pages sorted filled.0 (not_le _ (fence.behind 0 q (omega arith) (omega arith)))

  -- the home of a key is the page before the first greater fence, else the first page
  pub home_first : (pages : List (List (EntryKey × X))) → IsTrue (is_sorted key_cmp (all_pairs pages)) → AreFilled pages → IsFenceFor pages 0 → IsHome q pages 0
  home_first [] sorted filled fence = tt
  home_first (page ∷ pages) sorted filled fence =
      all_above pages (sorted_back key_cmp page (all_pairs pages) sorted) filled.1
      record { not_behind = λ i d before. absurd (omega arith); behind = λ i d from within. fence.behind (suc i) d (omega arith) (omega arith) }

  pub home_last : (pages : List (List (EntryKey × X))) (at : ℕ) → at < length pages → IsTrue (is_sorted key_cmp (all_pairs pages)) → AreFilled pages
      → IsFenceFor pages (suc at) → IsHome q pages at
  home_last [] at within sorted filled fence = absurd (omega arith)
  home_last (page ∷ pages) zero within sorted filled fence =
      all_above pages (sorted_back key_cmp page (all_pairs pages) sorted) filled.1
      record { not_behind = λ i d before. absurd (omega arith); behind = λ i d from within. fence.behind (suc i) d (omega arith) (omega arith) }
  home_last (page ∷ []) (suc at) within sorted filled fence = absurd (omega arith)
  home_last (page ∷ next ∷ pages) (suc at) within sorted filled fence = (
    below_fence q page next (all_pairs pages) sorted filled.1.0 (fence.not_behind 1 q (omega arith)),
    home_last (next ∷ pages) at (omega arith) (sorted_back key_cmp page (all_pairs (next ∷ pages)) sorted) filled.1
        record {
          not_behind = λ i d before. fence.not_behind (suc i) d (omega arith);
          behind = λ i d from within. fence.behind (suc i) d (omega arith)
              (omega arith);
        },
  )

module _ {X : Type 0} where
  -- splitting a page does not change the pairs
  pub all_pairs-cut : (pages : List (List (EntryKey × X))) (at : ℕ) (page behind : List (EntryKey × X)) → at < length pages
      → all_pairs (insert (set pages at page) (suc at) behind) ≡ all_pairs (set pages at (page ++ behind))
  all_pairs-cut [] at page behind within = absurd (omega arith)
  all_pairs-cut (first ∷ pages) zero page behind within = sym (append_assoc page behind (all_pairs pages))
  all_pairs-cut (first ∷ pages) (suc at) page behind within = ap (λ rest. first ++ rest) (all_pairs-cut pages at page behind (omega arith))
