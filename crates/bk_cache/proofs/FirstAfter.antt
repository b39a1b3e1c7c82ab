-- The first entry of a write cache after a key.
use Rattle.std.proofs.Common.{◌≡◌, ℕ, Bool, List, Option, Some, None, Ok, slice_get, refl, sym, ap, ◌∙◌}
use Rattle.std.specs.Ordering.{is_lt}
use Rattle.std.specs.List.{filter}
use Rattle.std.specs.FinMap.{from_sorted}
use Rattle.std.specs.FinMap as entries
use Rattle.bk_record.specs.Key.{EntryKey, key_cmp}
use Rattle.bk_record.specs.Record.{read_added}
use Rattle.bk_record.specs.Scan.{Payloads}
use Rattle.bk_record.proofs.Keys.{key_cmp_total}
use Rattle.bk_record.proofs.SortedPairs.{find_at}
use Rattle.bk_cache.specs.Invariant.{KeepsPairs}
use Rattle.bk_cache.specs.Recents.{Entry}
use Rattle.bk_cache.specs.Caches.{first_after}
use Rattle.bk_cache.proofs.KeptPairs.{kept_filter, entries_are}
use Rattle.bk_cache.proofs.Used.{entries-empty}

first_keyed : (pairs : List Entry) (len used : ℕ) → KeepsPairs pairs len used → (e : Entry) → slice_get pairs 0 ≡ Some e → read_added e.1 ≡ Ok e.0
first_keyed pairs len used kept e at = kept.keyed e.0 e.1 (find_at key_cmp_total pairs 0 e.0 e.1 kept.sorted at)

module _ (pairs : List Entry) (len used : ℕ) (kept : KeepsPairs pairs len used) (m : Payloads) (view : from_sorted pairs ≡ m) where
  -- first entry of all
  pub first_of_all : slice_get pairs 0 ≡ first_after None m
  first_of_all = ap (λ es. slice_get es 0) (sym (entries_are pairs len used kept m view))

  -- first entry after a key
  pub first_behind : (key : EntryKey) → slice_get (filter (λ e. is_lt (key_cmp key e.0)) pairs) 0 ≡ first_after (Some key) m
  first_behind key = ap (λ es. slice_get (filter (λ e. is_lt (key_cmp key e.0)) es) 0) (sym (entries_are pairs len used kept m view))

  pub first_after_keyed : (key : Option EntryKey) (e : Entry) → first_after key m ≡ Some e → read_added e.1 ≡ Ok e.0
  first_after_keyed None e at = first_keyed pairs len used kept e (first_of_all ∙ at)
  first_after_keyed (Some key) e at =
      let later : EntryKey → Bool = λ k. is_lt (key_cmp key k) in
      first_keyed _ _ _ (kept_filter pairs len used kept later _ _ refl refl) e (first_behind key ∙ at)

pub first_after-empty : (key : Option EntryKey) → first_after key entries.empty ≡ None
first_after-empty None = ap (λ pairs. slice_get pairs 0) entries-empty
first_after-empty (Some key) = ap (λ pairs. slice_get (filter (λ e. is_lt (key_cmp key e.0)) pairs) 0) entries-empty
