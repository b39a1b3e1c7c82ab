-- A write cache as pages: sorted pairs in short lists, by ledger and by the upper part of the entry
-- id. Read `page_of` first, then `ArePages`: the type invariant of `Rows`.
use Rattle.std.specs.Prelude.{◌≡◌, ◌<◌, ◌/◌, ℕ, Bool, true, false, List, length, None, IsSome, Result, Ok, Err}
use Rattle.std.specs.Bool.{IsTrue}
use Rattle.std.specs.Coded.{Coded, coded×, coded_list, coded_ℕ}
use Rattle.std.specs.List.{AllByRecursion, flat_map}
use Rattle.std.specs.BTreeMap.Range.{range_contains}
use Rattle.std.specs.declared.ops.Bound.TheVariants.{Included}
use Rattle.std.specs.FinMap.{find, put, is_sorted}
use Rattle.std.specs.declared.alloc.AllocError.{AllocError}
use Rattle.bk_record.specs.Key.{EntryKey, key_cmp}
use Rattle.bk_record.specs.Keyed.{key_code}
use Rattle.bk_cache.specs.Recents.{Entry}

abbrev pub entries_code : Coded (List Entry)
entries_code = coded_list (coded× key_code (coded_list coded_ℕ))

-- page of a key: those of a ledger whose entry ids have the same quotient by 256
abbrev pub page_of : EntryKey → EntryKey
page_of key = record { ledger = key.ledger; entry = key.entry / 256 }

-- pairs of all pages, in order
abbrev pub all_pairs : {X : Type 0} → List (EntryKey × List (EntryKey × X)) → List (EntryKey × X)
all_pairs pages = flat_map (λ page. page.1) pages

-- whether a page is one of the ledger
abbrev pub is_of_ledger : ℕ → EntryKey → Bool
is_of_ledger ledger page =
    range_contains key_cmp (Included (record { ledger = ledger; entry = 0 })) (Included (record { ledger = ledger; entry = 9223372036854775807 })) page

-- a page is not empty, and its pairs are sorted and are those of this page
pub record IsPage {X : Type 0} (page : EntryKey × List (EntryKey × X)) : Type 0 where
  pub filled : 0 < length page.1
  pub sorted : IsTrue (is_sorted key_cmp page.1)
  pub home : AllByRecursion (λ e. page_of e.0 ≡ page.0) page.1

-- the pages are in order
pub record ArePages {X : Type 0} (pages : List (EntryKey × List (EntryKey × X))) : Type 0 where
  pub sorted : IsTrue (is_sorted key_cmp pages)
  pub each : AllByRecursion (λ page. IsPage page) pages

-- An existing key is unchanged. A new one gets its payload, unless an allocation fails.
abbrev pub PutTransition : List Entry → EntryKey → List ℕ → Result Bool AllocError → List Entry → Type 0
PutTransition es key payload (Ok true) fs = (find key_cmp key es ≡ None) × (fs ≡ put key_cmp key payload es)
PutTransition es key payload (Ok false) fs = IsSome (find key_cmp key es) × (fs ≡ es)
PutTransition es key payload (Err fault) fs = (find key_cmp key es ≡ None) × (fs ≡ es)
