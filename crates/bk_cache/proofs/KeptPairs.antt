-- The pairs of a write cache and their map.
use Rattle.std.proofs.Common.{◌≡◌, ℕ, ◌+◌, ◌*◌, ◌≤◌, Bool, true, false, cond, not, eqb, List, [], ◌∷◌, length, Option, Some, None, option_map, unwrap_or, slice_get, Ok}
use Rattle.std.proofs.Common.{refl, sym, ap, subst, ◌∙◌, arith, add-one}
use Rattle.std.specs.declared.cmp.Ordering.TheVariants.{Less, Equal, Greater}
use Rattle.std.specs.Ordering.{eq_by_cmp, is_eq}
use Rattle.std.specs.List.{filter, sum_by, count_by}
use Rattle.std.specs.Map.{lookup, values_of}
use Rattle.std.specs.Cmp.{Equal-is}
use Rattle.std.specs.FinMap.{find, put, from_sorted}
use Rattle.std.specs.FinMap as entries
use Rattle.std.specs.FinMap.Entries.{by_order, find-put, find-where_key}
use Rattle.std.proofs.lemmas.List.Sums.{sum_by-cons, length-filter}
use Rattle.std.proofs.lemmas.List.Filters.{length-filter_both}
use Rattle.std.proofs.lemmas.Map.Entries.{sum_by-insert_entry}
use Rattle.bk_record.specs.Key.{EntryKey, key_cmp}
use Rattle.bk_record.specs.Record.{read_added}
use Rattle.bk_record.specs.Scan.{Payloads}
use Rattle.bk_record.specs.Keyed.{without_ledger, ledger_count}
use Rattle.bk_record.proofs.Keys.{key_cmp_total, key_cmp_antisymmetric}
use Rattle.bk_record.proofs.SortedPairs.{Some-same, keys_rise, find-lookup, find_at, is_sorted_put}
use Rattle.bk_record.proofs.KeyedLaws.{len-without_ledger}
use Rattle.bk_record.proofs.SortedMaps.{entries-sorted, len-sorted, get-sorted, insert-sorted, retain_keys-sorted, is_sorted-filter}
use Rattle.bk_cache.specs.Recents.{Entry}
use Rattle.bk_cache.proofs.Seen.{insert_entry-put}
use Rattle.bk_cache.specs.Invariant.{KeepsPairs}
use Rattle.bk_cache.specs.Caches.{used_of, AllKeyed}
use Rattle.bk_cache.proofs.LedgerCounts.{added_length-le}

pub kept_none : KeepsPairs [] 0 0
kept_none = record { sorted = refl; keyed = λ key payload is. cc; numbered = refl; counted = refl }

module _ (pairs : List Entry) (len used : ℕ) (kept : KeepsPairs pairs len used) where
  pub used_of-kept : used_of (from_sorted pairs) ≡ used
  used_of-kept = ap (λ es. sum_by length (values_of es)) (entries-sorted key_cmp pairs kept.sorted) ∙ sym kept.counted

  pub keyed_kept : AllKeyed (from_sorted pairs)
  keyed_kept key payload is = kept.keyed key payload (sym (get-sorted key_cmp pairs kept.sorted key) ∙ is)

  -- each payload has at least 16 bytes
  long : (es : List Entry) → ((i : ℕ) (e : Entry) → slice_get es i ≡ Some e → 16 ≤ length e.1) → 16 * length es ≤ sum_by length (values_of es)
  long [] each = omega arith
  long (e ∷ es) each =
      let rest = long es (λ i d is. each (i + 1) d (at_next i d is)) in
      omega (arith, rest, each 0 e refl, sum_by-cons length e.1 (values_of es))
    where
      at_next : (i : ℕ) (d : Entry) → slice_get es i ≡ Some d → slice_get (e ∷ es) (i + 1) ≡ Some d
      at_next i d is = rw (add-one i) is

  pub many : 16 * len ≤ used
  many =
      let all = long pairs (λ i e is. added_length-le e.1 e.0 (kept.keyed e.0 e.1 (find_at key_cmp_total pairs i e.0 e.1 kept.sorted is))) in
      omega (arith, all, kept.numbered, kept.counted)

  -- adding a pair under the key of its payload
  pub kept_put : (key : EntryKey) (payload : List ℕ) → read_added payload ≡ Ok key → find key_cmp key pairs ≡ None
      → KeepsPairs (put key_cmp key payload pairs) (len + 1) (used + length payload)
  kept_put key payload keyed absent =
      let none : unwrap_or (option_map length (lookup (eq_by_cmp key_cmp key) pairs)) 0 ≡ 0 =
      ap (λ o. unwrap_or (option_map length o) 0) (sym (find-lookup key_cmp key pairs) ∙ absent) in
      record {
        sorted = is_sorted_put key_cmp_total key payload pairs kept.sorted;
        keyed = λ q p is. keyed_put key payload keyed q p (sym (find-put key_cmp key_cmp_total q key payload pairs) ∙ is);
        numbered = omega (arith, kept.numbered, length_put key payload pairs absent);
        counted =
            let grown = rw insert_entry-put at (sum_by-insert_entry length key_cmp_total pairs key payload (keys_rise key_cmp pairs kept.sorted)) in
            omega (arith, grown, none, kept.counted);
      }
    where
      keyed_put : (key : EntryKey) (payload : List ℕ) → read_added payload ≡ Ok key → (q : EntryKey) (p : List ℕ)
          → cond (eq_by_cmp key_cmp q key) (Some payload) (find key_cmp q pairs) ≡ Some p → read_added p ≡ Ok q
      keyed_put key payload keyed q p =
          elim (eq_by_cmp key_cmp q key) as (λ b. eq_by_cmp key_cmp q key ≡ b → cond b (Some payload) (find key_cmp q pairs) ≡ Some p → read_added p ≡ Ok q) [
            | true ↦ λ tied is. subst (λ (bytes : List ℕ). read_added bytes ≡ Ok q) (Some-same is)
                (keyed ∙ ap Ok (sym (key_cmp_antisymmetric q key ((Equal-is (key_cmp q key)).0 tied))))
            | false ↦ λ _ is. kept.keyed q p is
          ] refl

      length_put : (key : EntryKey) (payload : List ℕ) (es : List Entry) → find key_cmp key es ≡ None → length (put key_cmp key payload es) ≡ length es + 1
      length_put key payload [] none = refl
      length_put key payload (e ∷ es) none =
          elim (key_cmp key e.0) as (λ r. cond (is_eq r) (Some e.1) (find key_cmp key es) ≡ None
          → length (by_order r ((key, payload) ∷ e ∷ es) ((e.0, payload) ∷ es) (e ∷ put key_cmp key payload es)) ≡ length (e ∷ es) + 1) [
            | Less ↦ λ _. omega arith
            | Equal ↦ λ has. cc
            | Greater ↦ λ is. omega (arith, length_put key payload es is)
          ] none

  -- keeping the pairs whose keys pass a test
  pub kept_filter : (p : EntryKey → Bool) (left bytes : ℕ) → left ≡ length (filter (λ e. p e.0) pairs)
      → bytes ≡ sum_by length (values_of (filter (λ e. p e.0) pairs)) → KeepsPairs (filter (λ e. p e.0) pairs) left bytes
  kept_filter p n bytes n_is bytes_is = record {
    sorted = is_sorted-filter key_cmp pairs kept.sorted p;
    keyed = λ q payload is. kept.keyed q payload (left (p q) (sym (find-where_key key_cmp p q (λ x tied. ap p (sym (key_cmp_antisymmetric q x tied))) pairs) ∙ is));
    numbered = n_is;
    counted = bytes_is;
  }
    where
      left : {o : Option (List ℕ)} {bytes : List ℕ} (b : Bool) → cond b o None ≡ Some bytes → o ≡ Some bytes
      left true is = is
      left false is = cc

  module _ (m : Payloads) (view : from_sorted pairs ≡ m) where
    pub used_is : used_of m ≡ used
    used_is = ap used_of (sym view) ∙ used_of-kept

    pub len_is : len ≡ entries.len m
    len_is = kept.numbered ∙ sym (len-sorted key_cmp pairs kept.sorted) ∙ ap entries.len view

    pub entries_are : entries.entries m ≡ pairs
    entries_are = ap entries.entries (sym view) ∙ entries-sorted key_cmp pairs kept.sorted

    pub get_is : (key : EntryKey) → entries.get m key ≡ find key_cmp key pairs
    get_is key = ap (λ n. entries.get n key) (sym view) ∙ get-sorted key_cmp pairs kept.sorted key

    pub put_is : (key : EntryKey) (payload : List ℕ) → from_sorted (put key_cmp key payload pairs) ≡ entries.insert m key payload
    put_is key payload = sym (insert-sorted key_cmp pairs kept.sorted key_cmp_total key payload) ∙ ap (λ n. entries.insert n key payload) view

    pub left_is : (ledger : ℕ) → from_sorted (filter (λ e. not (eqb e.0.ledger ledger)) pairs) ≡ without_ledger m ledger
    left_is ledger =
        sym (retain_keys-sorted key_cmp pairs kept.sorted key_cmp_total key_cmp_antisymmetric (λ k. not (eqb k.ledger ledger)))
        ∙ ap (λ n. without_ledger n ledger) view

    -- number of the keys that leave with a ledger
    pub gone_are : (ledger count : ℕ) → length (filter (λ e. not (eqb e.0.ledger ledger)) pairs) + count ≡ length pairs → count ≡ ledger_count m ledger
    gone_are ledger count together =
        let own : Entry → Bool = λ e. eqb e.0.ledger ledger in
        let parts = length-filter_both own (λ e. not (own e)) (λ e. refl) pairs in
        let counted = length-filter own pairs in
        let now = ap (count_by own) entries_are in
        omega (arith, parts, counted, together, now)

-- no key leaves if the map stays
pub none_gone : (m : Payloads) (ledger : ℕ) → without_ledger m ledger ≡ m → 0 ≡ ledger_count m ledger
none_gone m ledger same = let parts = len-without_ledger m ledger in omega (arith, parts, ap entries.len same)
