-- A walk over logs by rising id, and over the records of each, lists the entries that are in them.
use Rattle.std.proofs.Common.{◌≡◌, inl, ℕ, ◌<◌, List, [], ◌∷◌, ◌++◌, length, Option, Some, None, true, false, option_map}
use Rattle.std.proofs.Common.{refl, sym, ap, ◌∙◌, subst, append_assoc, arith}
use Rattle.std.specs.List.{flat_map, filter_map, cons_option}
use Rattle.std.specs.Ordering.{nat_cmp}
use Rattle.std.specs.FinMap as finite
use Rattle.std.specs.FinSet as set
use Rattle.std.proofs.lemmas.Cmp.{nat_cmp_total}
use Rattle.std.proofs.lemmas.List.{append-nil}
use Rattle.std.proofs.lemmas.List.Elements.{filter_map-append}
use Rattle.std.proofs.lemmas.Option.{none-some, same_Some}
use Rattle.bk_record.specs.Key.{EntryKey}
use Rattle.bk_record.specs.Location.{Place}
use Rattle.bk_record.specs.Record.{key_of}
use Rattle.bk_record.specs.Files.{records_of, placed, all_records, In}
use Rattle.bk_record.specs.Location.{Precedes}
use Rattle.bk_record.specs.Latest.{AreInOrder}
use Rattle.bk_record.specs.Scan.{Ledgers}
use Rattle.bk_record.proofs.Entries.{In-map, In-filter_map, filter_map-In, In-flat_map, flat_map-In}
use Rattle.bk_record.proofs.Orders.{all_records_in_order}
use Rattle.bk_record.specs.Keyed.{Places}
use Rattle.bk_store.specs.Entries.{Bytes, HasEntry}
use Rattle.bk_store.proofs.EntryLists.{Listed, AreRising, AreEntriesOf, IsIndexOfList, rising_append, list_indexed, list_passed}

-- a key with its place
abbrev pub keyed_at : ℕ → ℕ → EntryKey → Place × EntryKey
keyed_at log at key = (record { log = log; at = at }, key)

-- a record of a log as an entry, where it has a key
abbrev pub placed_key : ℕ → ℕ × List ℕ → Option (Place × EntryKey)
placed_key log r = option_map (keyed_at log r.0) (key_of r.1)

-- the entries among records of a log
abbrev pub listed_of : ℕ → List (ℕ × List ℕ) → Listed
listed_of log = filter_map (placed_key log)

-- the entries of these logs, one log after another
abbrev pub walked : Bytes → List ℕ → Listed
walked bytes ids = flat_map (λ id. listed_of id (records_of (bytes id))) ids

-- each number of the list is below those after it
abbrev pub AreAscending : List ℕ → Type 0
AreAscending [] = Unit {0}
AreAscending (id ∷ ids) = ((other : ℕ) → In other ids → id < other) × AreAscending ids

-- ---- the entries of one log

key_placed : (log at : ℕ) (payload : List ℕ) (key : EntryKey) → key_of payload ≡ Some key → placed_key log (at, payload) ≡ Some (keyed_at log at key)
key_placed log at payload key keyed = ap (option_map (keyed_at log at)) keyed

-- an entry that is listed is one of the records, and has the key
record IsOf (log : ℕ) (records : List (ℕ × List ℕ)) (place : Place) (key : EntryKey) : Type 0 where
  payload : List ℕ
  there : In (place.at, payload) records
  keyed : key_of payload ≡ Some key
  log_is : place.log ≡ log

listed_record : (log : ℕ) (records : List (ℕ × List ℕ)) (place : Place) (key : EntryKey) → In (place, key) (listed_of log records) → IsOf log records place key
listed_record log records place key there =
    let found = filter_map-In (placed_key log) (place, key) records there in
    let at = found.0.0 in
    let payload = found.0.1 in
    elim (key_of payload) as (λ o. key_of payload ≡ o → option_map (keyed_at log at) o ≡ Some (place, key) → IsOf log records place key) [
      | None ↦ λ _ never. absurd (none-some (place, key) never)
      | Some k ↦ λ keyed is.
          let same = same_Some (keyed_at log at k) (place, key) is in
          record {
            payload = payload;
            there = subst (λ (n : ℕ). In (n, payload) records) (ap (λ (x : Place × EntryKey). x.0.at) same) found.1.0;
            keyed = keyed ∙ ap (λ (x : Place × EntryKey). Some x.1) same;
            log_is = sym (ap (λ (x : Place × EntryKey). x.0.log) same);
          }
    ] refl found.1.1

record_listed : (log : ℕ) (records : List (ℕ × List ℕ)) (at : ℕ) (payload : List ℕ) (key : EntryKey) → In (at, payload) records → key_of payload ≡ Some key
    → In (keyed_at log at key) (listed_of log records)
record_listed log records at payload key there keyed =
    In-filter_map (placed_key log) (keyed_at log at key) (at, payload) records there (key_placed log at payload key keyed)

listed_rising : (log : ℕ) (records : List (ℕ × List ℕ)) → AreInOrder (placed log records) → AreRising (listed_of log records)
listed_rising log [] ordered = tt
listed_rising log (r ∷ records) ordered = elim (key_of r.1) as (λ o. AreRising (cons_option (option_map (keyed_at log r.0) o) (listed_of log records))) [
  | None ↦ listed_rising log records ordered.1
  | Some key ↦ (
    λ place k there.
        let e = listed_record log records place k there in
        let later = ordered.0 (record { log = log; at = place.at }) e.payload
        (In-map (λ x. (record { log = log; at = x.0 }, x.1)) (place.at, e.payload) records e.there) in
        let same : record { log = log; at = place.at } ≡ place = λ i. record { log = sym e.log_is i; at = place.at } in
        subst (λ p. Precedes (record { log = log; at = r.0 }) p) same later,
    listed_rising log records ordered.1,
  )
]

-- the records of one log are in order, as those of a single file
none_listed : {X : Type 0} (xs : List X) → length xs ≡ 0 → xs ≡ []
none_listed [] empty = refl
none_listed (x ∷ xs) empty = absurd (omega arith)

log_in_order : (log : ℕ) (bytes : List ℕ) → AreInOrder (placed log (records_of bytes))
unfolding all_records
log_in_order log bytes =
    let files = finite.insert {X = List ℕ} {R = nat_cmp} finite.empty log bytes in
    let none : finite.entries {X = List ℕ} {R = nat_cmp} finite.empty ≡ [] = none_listed _ (sym (finite.len-entries _) ∙ finite.len-empty nat_cmp (List ℕ)) in
    let alone : finite.entries files ≡ (log, bytes) ∷ [] =
    finite.entries-insert nat_cmp_total finite.empty log bytes ∙ ap (finite.put nat_cmp log bytes) none in
    subst AreInOrder (ap (flat_map (λ f. placed f.0 (records_of f.1))) alone ∙ append-nil (placed log (records_of bytes))) (all_records_in_order files)

-- ---- all logs

walked_rising : (bytes : Bytes) (ids : List ℕ) → AreAscending ids → AreRising (walked bytes ids)
walked_rising bytes [] ascending = tt
walked_rising bytes (id ∷ ids) ascending =
    rising_append (listed_of id (records_of (bytes id))) (walked bytes ids) (listed_rising id (records_of (bytes id)) (log_in_order id (bytes id)))
    (walked_rising bytes ids ascending.1)
    (λ p q k j here there.
    let mine = listed_record id (records_of (bytes id)) p k here in
    let other = flat_map-In (λ id. listed_of id (records_of (bytes id))) (q, j) ids there in
    let theirs = listed_record other.0 (records_of (bytes other.0)) q j other.1.1 in
    let less = ascending.0 other.0 other.1.0 in
    let left = mine.log_is in
    let right = theirs.log_is in
    inl (omega arith))

-- A walk over all logs that have entries, by rising id, lists what is in them.
pub walked_lists : (bytes : Bytes) (ids : List ℕ) → AreAscending ids
    → ((place : Place) (key : EntryKey) (payload : List ℕ) → HasEntry bytes place key payload → In place.log ids)
    → AreEntriesOf bytes (walked bytes ids)
walked_lists bytes ids ascending all = record {
  stands = λ place key there.
      let found = flat_map-In (λ id. listed_of id (records_of (bytes id))) (place, key) ids there in
      let e = listed_record found.0 (records_of (bytes found.0)) place key found.1.1 in
      (e.payload, record { stands = subst (λ id. In (place.at, e.payload) (records_of (bytes id))) (sym e.log_is) e.there; keyed = e.keyed });
  listed = λ place key payload entry. In-flat_map (λ id. listed_of id (records_of (bytes id))) (place, key) place.log ids (all place key payload entry)
      (record_listed place.log (records_of (bytes place.log)) place.at payload key entry.stands entry.keyed);
  rising = walked_rising bytes ids ascending;
}

-- one more log
pub walked_push : (bytes : Bytes) (ids : List ℕ) (id : ℕ) → walked bytes (ids ++ id ∷ []) ≡ walked bytes ids ++ listed_of id (records_of (bytes id))
walked_push bytes [] id = append-nil (listed_of id (records_of (bytes id)))
walked_push bytes (x ∷ ids) id =
    ap (λ (l : Listed). listed_of x (records_of (bytes x)) ++ l) (walked_push bytes ids id)
    ∙ sym (append_assoc (listed_of x (records_of (bytes x))) (walked bytes ids) (listed_of id (records_of (bytes id))))

-- ---- one more record of a log, after what was walked over

listed_keyed : (log : ℕ) (records : List (ℕ × List ℕ)) (at : ℕ) (payload : List ℕ) (key : EntryKey) → key_of payload ≡ Some key
    → listed_of log (records ++ (at, payload) ∷ []) ≡ listed_of log records ++ keyed_at log at key ∷ []
listed_keyed log records at payload key keyed =
    filter_map-append (placed_key log) records ((at, payload) ∷ [])
    ∙ ap (λ (o : Option (Place × EntryKey)). listed_of log records ++ cons_option o []) (key_placed log at payload key keyed)

listed_foreign : (log : ℕ) (records : List (ℕ × List ℕ)) (at : ℕ) (payload : List ℕ) → key_of payload ≡ None
    → listed_of log (records ++ (at, payload) ∷ []) ≡ listed_of log records
listed_foreign log records at payload foreign =
    filter_map-append (placed_key log) records ((at, payload) ∷ [])
    ∙ ap (λ (o : Option EntryKey). listed_of log records ++ cons_option (option_map (keyed_at log at) o) []) foreign
    ∙ append-nil (listed_of log records)

module _ {dead : Ledgers} {index : Places} (front : Listed) (log : ℕ) (records : List (ℕ × List ℕ))
    (made : IsIndexOfList (front ++ listed_of log records) dead index) (at : ℕ) (payload : List ℕ) where
  grown_list : (key : EntryKey) → key_of payload ≡ Some key
      → (front ++ listed_of log records) ++ keyed_at log at key ∷ [] ≡ front ++ listed_of log (records ++ (at, payload) ∷ [])
  grown_list key keyed =
      append_assoc front (listed_of log records) (keyed_at log at key ∷ [])
      ∙ ap (λ (l : Listed). front ++ l) (sym (listed_keyed log records at payload key keyed))

  pub walk_indexed : (key : EntryKey) → key_of payload ≡ Some key → set.contains dead key.ledger ≡ false
      → IsIndexOfList (front ++ listed_of log (records ++ (at, payload) ∷ [])) dead (finite.insert index key (record { log = log; at = at }))
  walk_indexed key keyed alive =
      subst (λ l. IsIndexOfList l dead (finite.insert index key (record { log = log; at = at }))) (grown_list key keyed)
      (list_indexed made (record { log = log; at = at }) key alive)

  pub walk_passed : (key : EntryKey) → key_of payload ≡ Some key → set.contains dead key.ledger ≡ true
      → IsIndexOfList (front ++ listed_of log (records ++ (at, payload) ∷ [])) dead index
  walk_passed key keyed gone = subst (λ l. IsIndexOfList l dead index) (grown_list key keyed) (list_passed made (record { log = log; at = at }) key gone)

  pub walk_foreign : key_of payload ≡ None → IsIndexOfList (front ++ listed_of log (records ++ (at, payload) ∷ [])) dead index
  walk_foreign foreign = subst (λ l. IsIndexOfList (front ++ l) dead index) (sym (listed_foreign log records at payload foreign)) made
