-- Payload bytes of a cache after a change.
use Rattle.std.proofs.Common.{◌≡◌, ℕ, ◌+◌, ◌≤◌, not, eqb, Bool, List, [], length, None, refl, option_map, unwrap_or, sym, ap, ◌∙◌, arith}
use Rattle.std.specs.Ordering.{eq_by_cmp}
use Rattle.std.specs.List.{filter, sum_by, count_by}
use Rattle.std.specs.Map.{values_of, lookup}
use Rattle.std.specs.FinMap.{empty, get, insert, entries, entries_sorted, entries-insert, get-entries}
use Rattle.std.proofs.lemmas.List.Filters.{sum_by-filter_both}
use Rattle.std.proofs.lemmas.Map.Entries.{sum_by-insert_entry}
use Rattle.bk_record.specs.Key.{EntryKey, key_cmp}
use Rattle.bk_record.specs.Scan.{Payloads}
use Rattle.bk_record.specs.Keyed.{without_ledger, ledger_count}
use Rattle.bk_record.proofs.Keys.{key_cmp_total}
use Rattle.bk_record.proofs.SortedPairs.{is_true, keys_rise, find-lookup}
use Rattle.bk_record.proofs.SortedMaps.{entries-sorted, from_sorted-nil}
use Rattle.bk_record.proofs.KeyedLaws.{entries-without_ledger}
use Rattle.bk_cache.specs.Recents.{Entry}
use Rattle.bk_cache.specs.Caches.{used_of}
use Rattle.bk_cache.proofs.Seen.{insert_entry-put, sum_by-map}

pub entries-empty : entries (empty {X = List ℕ} {R = key_cmp}) ≡ []
entries-empty = ap entries (sym (from_sorted-nil key_cmp)) ∙ entries-sorted key_cmp [] refl

pub used_of-empty : used_of empty ≡ 0
used_of-empty = ap (λ es. sum_by length (values_of es)) entries-empty

pub used_of-insert : (m : Payloads) (key : EntryKey) (payload : List ℕ) → get m key ≡ None → used_of (insert m key payload) ≡ used_of m + length payload
used_of-insert m key payload absent =
    let missing = sym (find-lookup key_cmp key (entries m)) ∙ sym (get-entries m key) ∙ absent in
    let none : unwrap_or (option_map length (lookup (eq_by_cmp key_cmp key) (entries m))) 0 ≡ 0 = ap (λ o. unwrap_or (option_map length o) 0) missing in
    let grown = rw insert_entry-put at
    (sum_by-insert_entry length key_cmp_total (entries m) key payload (keys_rise key_cmp (entries m) (is_true _ (entries_sorted m)))) in
    let now = ap (λ es. sum_by length (values_of es)) (entries-insert key_cmp_total m key payload) in
    omega (arith, grown, none, now)

pub used_of-without_ledger-le : (m : Payloads) (ledger : ℕ) → used_of (without_ledger m ledger) ≤ used_of m
used_of-without_ledger-le m ledger =
    let gone : Entry → Bool = λ e. eqb e.0.ledger ledger in
    let both = sum_by-filter_both gone (λ e. not (gone e)) (λ e. refl) (λ e. length e.1) (entries m) in
    let before = sum_by-map length (λ (e : Entry). e.1) (entries m) in
    let left = sum_by-map length (λ (e : Entry). e.1) (filter (λ e. not (gone e)) (entries m)) in
    let now = ap (λ es. sum_by length (values_of es)) (entries-without_ledger m ledger) in
    omega (arith, both, before, left, now)

pub ledger_count-empty : (ledger : ℕ) → ledger_count {X = List ℕ} empty ledger ≡ 0
ledger_count-empty ledger = ap (count_by (λ e. eqb e.0.ledger ledger)) entries-empty
