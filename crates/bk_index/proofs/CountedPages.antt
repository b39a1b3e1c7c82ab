-- Sorted pages and their map: the results of calls on pages are those of the map.
use Rattle.std.proofs.Common.{◌≡◌, ℕ, ◌+◌, ◌≤◌, Bool, true, false, cond, List, length, map as each, All, Some, None, is_some, sym, ap, subst, ◌∙◌}
use Rattle.std.specs.Bool.{IsTrue, OnTrue, OnFalse}
use Rattle.std.specs.FinMap.{FinMap, find, put, is_sorted, from_sorted}
use Rattle.std.specs.FinMap as map
use Rattle.std.specs.FinMap.Entries.{length-put}
use Rattle.std.proofs.lemmas.List.Concat.{length-flat_map}
use Rattle.std.proofs.lemmas.List.Elements.{All-map}
use Rattle.std.proofs.lemmas.List.Sums.{sum-map}
use Rattle.bk_record.specs.Key.{EntryKey, key_cmp}
use Rattle.bk_index.specs.Pages.{all_pairs, AreCounted, ArePageLens}
use Rattle.bk_record.proofs.Keys.{key_cmp_total}
use Rattle.bk_record.proofs.SortedPairs.{passed, is_sorted_put}
use Rattle.bk_record.proofs.SortedMaps.{entries-sorted, len-sorted, get-sorted, insert-sorted}

module _ {X : Type 0} (pages : List (List (EntryKey × X))) (sorted : IsTrue (is_sorted key_cmp (all_pairs pages))) (key : EntryKey) where
  -- a new key adds one pair; overwriting a key does not change their number
  pub length_new : (v : X) → find key_cmp key (all_pairs pages) ≡ None → length (put key_cmp key v (all_pairs pages)) ≡ length (all_pairs pages) + 1
  length_new v none = length-put key_cmp key_cmp_total key v (all_pairs pages) (passed _ sorted)
      ∙ ap (λ found. cond (is_some found) (length (all_pairs pages)) (length (all_pairs pages) + 1)) none

  pub length_held : (v w : X) → find key_cmp key (all_pairs pages) ≡ Some w → length (put key_cmp key v (all_pairs pages)) ≡ length (all_pairs pages)
  length_held v w held = length-put key_cmp key_cmp_total key v (all_pairs pages) (passed _ sorted)
      ∙ ap (λ found. cond (is_some found) (length (all_pairs pages)) (length (all_pairs pages) + 1)) held

  -- the pages after an insertion of the key are sorted, with the new number of pairs
  pub counted_put : (v : X) (left : List (List (EntryKey × X))) (len : ℕ) → all_pairs left ≡ put key_cmp key v (all_pairs pages) → len
      ≡ length (all_pairs left) → AreCounted left len
  counted_put v left len is counted = record { sorted = rw is (is_sorted_put key_cmp_total key v (all_pairs pages) sorted); counted = counted }

  pub counted_either : (b : Bool) (v : X) (left : List (List (EntryKey × X))) (len : ℕ) → OnTrue b (all_pairs left ≡ put key_cmp key v (all_pairs pages))
      → OnFalse b (left ≡ pages) → len ≡ length (all_pairs pages) → length (all_pairs left) ≡ length (all_pairs pages) → AreCounted left len
  counted_either true v left len is same counted kept = counted_put v left len is (counted ∙ sym kept)
  counted_either false v left len is same counted kept =
      subst (λ (ps : List (List (EntryKey × X))). AreCounted ps len) (sym same) record { sorted = sorted; counted = counted }

module _ {X : Type 0} (pages : List (List (EntryKey × X))) (sorted : IsTrue (is_sorted key_cmp (all_pairs pages))) (m : FinMap key_cmp X)
    (seen : from_sorted (all_pairs pages) ≡ m) where
  pub entries_seen : all_pairs pages ≡ map.entries m
  entries_seen = sym (entries-sorted key_cmp (all_pairs pages) sorted) ∙ ap map.entries seen

  pub len_seen : length (all_pairs pages) ≡ map.len m
  len_seen = sym (len-sorted key_cmp (all_pairs pages) sorted) ∙ ap map.len seen

  pub get_seen : (key : EntryKey) → find key_cmp key (all_pairs pages) ≡ map.get m key
  get_seen key = sym (get-sorted key_cmp (all_pairs pages) sorted key) ∙ ap (λ n. map.get n key) seen

  pub insert_seen : (key : EntryKey) (v : X) (left : List (List (EntryKey × X))) → all_pairs left ≡ put key_cmp key v (all_pairs pages)
      → from_sorted (all_pairs left) ≡ map.insert m key v
  insert_seen key v left is = ap from_sorted is ∙ sym (insert-sorted key_cmp (all_pairs pages) sorted key_cmp_total key v) ∙ ap (λ n. map.insert n key v) seen

  -- the page lengths are possible for the number of keys
  pub page_lens : All (λ page. (1 ≤ length page) × (length page ≤ 256)) pages → ArePageLens (each length pages) (map.len m)
  page_lens sizes = record {
    sizes = All-map (λ len. (1 ≤ len) × (len ≤ 256)) length pages sizes;
    all_keys = sum-map length pages ∙ sym (length-flat_map (λ page. page) pages) ∙ len_seen;
  }
