-- A look-up, a write and a split in the page of a key, as operations on all pairs.
use Rattle.std.proofs.Common.{◌≡◌, ℕ, zero, suc, ◌+◌, ◌<◌, List, [], ◌∷◌, ◌++◌, length, get_or, set, refl, sym, ap, ◌∙◌, add-one}
use Rattle.std.specs.Bool.{IsTrue}
use Rattle.std.specs.List.{insert}
use Rattle.std.specs.FinMap.{find, put, is_sorted}
use Rattle.std.proofs.lemmas.List.{get_or_read}
use Rattle.bk_record.specs.Key.{EntryKey, key_cmp}
use Rattle.bk_index.specs.Pages.{all_pairs, IsHome}
use Rattle.bk_record.proofs.SortedPairs.{sorted_front}
use Rattle.bk_index.proofs.CutPairs.{sorted_back}
use Rattle.bk_index.proofs.Homes.{find_home, put_home, all_pairs-cut}

-- a page of sorted pairs is sorted
pub sorted_page : {X : Type 0} (pages : List (List (EntryKey × X))) (at : ℕ) → IsTrue (is_sorted key_cmp (all_pairs pages))
    → IsTrue (is_sorted key_cmp (get_or pages at []))
sorted_page [] at sorted = refl
sorted_page (page ∷ pages) zero sorted = sorted_front key_cmp page (all_pairs pages) sorted
sorted_page (page ∷ pages) (suc at) sorted = sorted_page pages at (sorted_back key_cmp page (all_pairs pages) sorted)

module _ {X : Type 0} (pages : List (List (EntryKey × X))) (at : ℕ) (within : at < length pages) (held : List (EntryKey × X)) (read : held
    ≡ get_or pages at held) where
  pub read_page : held ≡ get_or pages at []
  read_page = get_or_read pages at held within read []

  pub sorted_held : IsTrue (is_sorted key_cmp (all_pairs pages)) → IsTrue (is_sorted key_cmp held)
  sorted_held sorted = rw read_page (sorted_page pages at sorted)

  module _ (q : EntryKey) (home : IsHome q pages at) where
    pub find_there : find key_cmp q (all_pairs pages) ≡ find key_cmp q held
    find_there = find_home q pages at home ∙ ap (find key_cmp q) (sym read_page)

    pub put_there : (v : X) (page : List (EntryKey × X)) → page ≡ put key_cmp q v held → all_pairs (set pages at page) ≡ put key_cmp q v (all_pairs pages)
    put_there v page is = ap (λ p. all_pairs (set pages at p)) (is ∙ ap (put key_cmp q v) read_page) ∙ sym (put_home q v pages at within home)

    pub split_there : (v : X) (page behind : List (EntryKey × X)) → page ++ behind ≡ put key_cmp q v held
        → all_pairs (insert (set pages at page) (at + 1) behind) ≡ put key_cmp q v (all_pairs pages)
    split_there v page behind is = rw add-one (all_pairs-cut pages at page behind within ∙ put_there v (page ++ behind) is)
