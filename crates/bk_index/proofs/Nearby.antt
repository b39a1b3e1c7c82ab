-- A page that has a key is the page for the key.
use Rattle.std.proofs.Common.{◌≡◌, ℕ, zero, suc, ◌<◌, List, [], ◌∷◌, ◌++◌, length, get_or, subst}
use Rattle.std.specs.Bool.{IsTrue}
use Rattle.std.specs.declared.cmp.Ordering.TheVariants.{Less}
use Rattle.std.specs.List.{AllByRecursion}
use Rattle.std.specs.FinMap.{is_sorted}
use Rattle.bk_record.specs.Key.{EntryKey, key_cmp}
use Rattle.bk_record.proofs.SortedPairs.{Some-same}
use Rattle.bk_index.specs.Sorted.{IsAt}
use Rattle.bk_index.specs.Pages.{all_pairs, IsHome}
use Rattle.bk_index.proofs.HomePages.{read_page}
use Rattle.bk_index.proofs.CutPairs.{each_front, each_back, head_below, sorted_back}

module _ {X : Type 0} (key : EntryKey) where
  -- a property of every key holds of the key at a place
  holds_at : (P : EntryKey → Type 0) (pairs : List (EntryKey × X)) (at : ℕ) → IsAt pairs key at → AllByRecursion (λ pair. P pair.0) pairs → P key
  holds_at P [] at here each = cc
  holds_at P (pair ∷ pairs) zero here each = subst P (Some-same here) each.0
  holds_at P (pair ∷ pairs) (suc at) here each = holds_at P pairs at here each.1

  -- a property of every pair holds of the pairs of a page
  in_page : (P : EntryKey × X → Type 0) (pages : List (List (EntryKey × X))) (at : ℕ) → AllByRecursion P (all_pairs pages)
      → AllByRecursion P (get_or pages at [])
  in_page P [] at each = tt
  in_page P (page ∷ pages) zero each = each_front P page (all_pairs pages) each
  in_page P (page ∷ pages) (suc at) each = in_page P pages at (each_back P page (all_pairs pages) each)

  -- the keys after the page are greater
  greater_behind : (page rest : List (EntryKey × X)) (at : ℕ) → IsTrue (is_sorted key_cmp (page ++ rest)) → IsAt page key at
      → AllByRecursion (λ pair. key_cmp key pair.0 ≡ Less) rest
  greater_behind [] rest at sorted here = cc
  greater_behind (e ∷ es) rest zero sorted here =
      subst (λ (k : EntryKey). AllByRecursion (λ (pair : EntryKey × X). key_cmp k pair.0 ≡ Less) rest) (Some-same here)
      (each_back (λ pair. key_cmp e.0 pair.0 ≡ Less) es rest (head_below key_cmp e (es ++ rest) sorted))
  greater_behind (e ∷ es) rest (suc at) sorted here = greater_behind es rest at (sorted_back key_cmp (e ∷ []) (es ++ rest) sorted) here

  -- the keys before the page are smaller
  smaller_before : (page : List (EntryKey × X)) (pages : List (List (EntryKey × X))) (at place : ℕ) → IsTrue (is_sorted key_cmp (page ++ all_pairs pages))
      → IsAt (get_or pages at []) key place → AllByRecursion (λ pair. key_cmp pair.0 key ≡ Less) page
  smaller_before [] pages at place sorted here = tt
  smaller_before (e ∷ es) pages at place sorted here = (
    holds_at (λ k. key_cmp e.0 k ≡ Less) (get_or pages at []) place here
        (in_page (λ pair. key_cmp e.0 pair.0 ≡ Less) pages at
        (each_back (λ pair. key_cmp e.0 pair.0 ≡ Less) es (all_pairs pages) (head_below key_cmp e (es ++ all_pairs pages) sorted))),
    smaller_before es pages at place (sorted_back key_cmp (e ∷ []) (es ++ all_pairs pages) sorted) here,
  )

  pub home_held : (pages : List (List (EntryKey × X))) (at place : ℕ) → IsTrue (is_sorted key_cmp (all_pairs pages)) → IsAt (get_or pages at []) key place
      → IsHome key pages at
  home_held [] at place sorted here = tt
  home_held (page ∷ pages) zero place sorted here = greater_behind page (all_pairs pages) place sorted here
  home_held (page ∷ pages) (suc at) place sorted here = (
    smaller_before page pages at place sorted here,
    home_held pages at place (sorted_back key_cmp page (all_pairs pages) sorted) here,
  )

  -- the same for a page that was read
  pub home_here : (pages : List (List (EntryKey × X))) (at : ℕ) → at < length pages → (held : List (EntryKey × X)) → held ≡ get_or pages at held → (place : ℕ)
      → IsTrue (is_sorted key_cmp (all_pairs pages)) → IsAt held key place → IsHome key pages at
  home_here pages at within held read place sorted here =
      home_held pages at place sorted (subst (λ (p : List (EntryKey × X)). IsAt p key place) (read_page pages at within held read) here)
