-- The entries that a walk over all logs takes in are those of the files, and the last one of a key is what the scan finds.
use Rattle.std.proofs.Common.{◌≡◌, inl, inr, ℕ, ◌+◌, ◌-◌, ◌<◌, ◌≤◌, ◌^◌, ◌↔◌, zero, suc, Bool, true, false, not, cond, IsTrue, List, [], ◌∷◌, ◌++◌, length, take, drop, map, Option, Some, None, IsNone, is_some}
use Rattle.std.proofs.Common.{slice_get, refl, sym, ap, ap₂, ◌∙◌, subst, arith, nat_cmp, unwrap_or}
use Rattle.std.specs.Prelude.{flat_map, slice_index}
use Rattle.std.specs.List.{All, filter}
use Rattle.std.specs.List.Sorted.{IsStrictlySortedBy}
use Rattle.std.specs.BTreeMap as tree
use Rattle.std.specs.BTreeMap.{BTreeMap, IsOrdered}
use Rattle.std.specs.Cmp.{nat_cmp_total}
use Rattle.std.specs.FinMap as finite
use Rattle.std.specs.FinMap.{nat_cmp-IsAntisymmetric}
use Rattle.std.specs.Io.KnownBytes.{Appends}
use Rattle.std.proofs.lemmas.List.{take_at}
use Rattle.std.proofs.lemmas.List.Elements.{filter-append, All-head, All-tail}
use Rattle.std.proofs.lemmas.List.Folds.{flat_map-map}
use Rattle.std.proofs.lemmas.Map.Entries.{btree_map_get_place}
use Rattle.bk_record.specs.Key.{EntryKey}
use Rattle.bk_record.specs.Location.{Place}
use Rattle.bk_record.specs.Record.{record_of, key_of, is_foreign}
use Rattle.bk_record.specs.Files.{Files, In, HasRecord, records_of, placed, all_records, file_of}
use Rattle.bk_record.specs.Scan.{entries_of, scan_of}
use Rattle.bk_record.specs.Entry.{HasKeyedRecord, IsLastRecord}
use Rattle.bk_record.specs.Latest.{AreInOrder}
use Rattle.bk_record.specs.Spelling.{IsBytes}
use Rattle.bk_record.proofs.Entries.{find-In, In-filter, filter-In, In-map, map-In}
use Rattle.bk_record.proofs.Growth.{records_of-short}
use Rattle.bk_record.proofs.LastEntries.{scan-entry, entry-scan}
use Rattle.bk_record.proofs.Orders.{all_records_in_order}
use Rattle.bk_record.proofs.Records.{length-record_of}
use Rattle.bk_record.proofs.Scans.{record-all, all-record}
use Rattle.bk_record.proofs.SortedPairs.{find-lookup}
use Rattle.bk_log.proofs.Fetches.{payload_of}
use Rattle.bk_log.proofs.OneRecord.{stands_once}
use Rattle.bk_disk.specs.Disk.{AreLogFiles}
use Rattle.bk_inspect.specs.declared.command.EntryRange.{EntryRange}
use Rattle.bk_inspect.specs.declared.entries.Standing.{Standing}
use Rattle.bk_inspect.specs.Exporting.{IsExport, IsExported, WritesAll, record_in, records_in}
use Rattle.bk_inspect.specs.LastRecords.{key_in, place_of, IsInRange, IsLastIn, LastIn, HasLast}
use Rattle.bk_inspect.specs.Shown.{WritesText}
use Rattle.bk_inspect.specs.Walking.{entries_in_logs}

In-place : {X : Type 0} (x : X) (xs : List X) → In x xs → (i : ℕ) × (slice_get xs i ≡ Some x)
In-place x [] there = absurd there
In-place x (y ∷ ys) (inl same) = (0, ap Some same)
In-place x (y ∷ ys) (inr later) = let at = In-place x ys later in (suc at.0, at.1)

none_is : {X : Type 0} (o : Option X) → IsNone o → o ≡ None
none_is None is = refl
none_is (Some x) is = cc

-- a log that is not there has no record
no_record : (files : Files) (place : Place) (payload : List ℕ) → finite.get files place.log ≡ None → HasRecord files place payload → ⊥
unfolding HasRecord
no_record files place payload none there =
    subst (λ (l : List (ℕ × List ℕ)). In (place.at, payload) l)
    (ap (λ (o : Option (List ℕ)). records_of (unwrap_or o [])) none ∙ records_of-short [] (omega arith)) there

bytes_small : (bytes : List ℕ) → All (λ b. b < 2 ^ 8) bytes → IsBytes bytes
bytes_small [] all i = omega arith
bytes_small (b ∷ bytes) all zero = All-head (λ x. x < 2 ^ 8) b bytes all
bytes_small (b ∷ bytes) all (suc i) = bytes_small bytes (All-tail (λ x. x < 2 ^ 8) b bytes all) i

file_bytes : (files : Files) (log : ℕ) → AreLogFiles files → IsBytes (file_of files log)
file_bytes files log are = elim (finite.get files log) as (λ o. finite.get files log ≡ o → IsBytes (unwrap_or o [])) [
  | None ↦ λ _ i. omega arith
  | Some file ↦ λ is. bytes_small file (are.each log file is).bytes
] refl

filter_placed : (log : ℕ) (rs : List (ℕ × List ℕ)) → placed log (filter (λ r. not (is_foreign r.1)) rs) ≡ filter (λ r. not (is_foreign r.1)) (placed log rs)
filter_placed log [] = refl
filter_placed log (r ∷ rs) =
    let place : Place × List ℕ = (record { log = log; at = r.0 }, r.1) in
    elim (not (is_foreign r.1)) as (λ b. placed log (cond b (r ∷ filter (λ r. not (is_foreign r.1)) rs) (filter (λ r. not (is_foreign r.1)) rs))
    ≡ cond b (place ∷ filter (λ r. not (is_foreign r.1)) (placed log rs)) (filter (λ r. not (is_foreign r.1)) (placed log rs))) [
      | true ↦ ap (λ (l : List (Place × List ℕ)). place ∷ l) (filter_placed log rs)
      | false ↦ filter_placed log rs
    ]

-- the entries of the logs are their records without the foreign ones
entries_filtered : (logs : List (ℕ × List ℕ)) → entries_in_logs logs ≡ filter (λ r. not (is_foreign r.1)) (flat_map (λ f. placed f.0 (records_of f.1)) logs)
unfolding entries_of
entries_filtered [] = refl
entries_filtered (f ∷ logs) =
    ap₂ (λ (a b : List (Place × List ℕ)). a ++ b) (filter_placed f.0 (records_of f.1)) (entries_filtered logs)
    ∙ sym (filter-append (λ (r : Place × List ℕ). not (is_foreign r.1)) (placed f.0 (records_of f.1)) (flat_map (λ f. placed f.0 (records_of f.1)) logs))

order_filter : (p : Place × List ℕ → Bool) (xs : List (Place × List ℕ)) → AreInOrder xs → AreInOrder (filter p xs)
order_filter p [] order = tt
order_filter p (x ∷ xs) order =
    elim (p x) as (λ b. AreInOrder (cond b (x ∷ filter p xs) (filter p xs))) [
      | true ↦ (λ place payload there. order.0 place payload (filter-In p (place, payload) xs there), order_filter p xs order.1)
      | false ↦ order_filter p xs order.1
    ]

module _ (files : Files) where
  all_filtered : entries_in_logs (finite.entries files) ≡ filter (λ r. not (is_foreign r.1)) (all_records files)
  unfolding all_records
  all_filtered = entries_filtered (finite.entries files)

  entries_in_order : AreInOrder (entries_in_logs (finite.entries files))
  entries_in_order = subst AreInOrder (sym all_filtered) (order_filter _ (all_records files) (all_records_in_order files))

  -- an entry that was taken in is a record of its key in the files, and conversely
  taken-record : (place : Place) (payload : List ℕ) → In (place, payload) (entries_in_logs (finite.entries files)) → HasRecord files place payload
  taken-record place payload there =
      all-record files place payload (filter-In _ (place, payload) (all_records files) (subst (In (place, payload)) all_filtered there))

  record-taken : (place : Place) (payload : List ℕ) (key : EntryKey) → HasKeyedRecord files place key payload
      → In (place, payload) (entries_in_logs (finite.entries files))
  record-taken place payload key is =
      subst (In (place, payload)) (sym all_filtered)
      (In-filter (λ (r : Place × List ℕ). not (is_foreign r.1)) (place, payload) (all_records files) (record-all files place payload is.stands)
      (ap (λ (o : Option EntryKey). not (not (is_some o))) is.keyed))

  -- the last record taken in of an entry is the last one in the files
  last_is : (range : EntryRange) (entry : ℕ) (standing : Standing) → (is : IsLastIn range (entries_in_logs (finite.entries files)) entry standing)
      → IsLastRecord files (place_of standing) (key_in range entry) is.payload
  last_is range entry standing is = record {
    here = record { stands = taken-record (place_of standing) is.payload is.there; keyed = is.keyed };
    last = λ other held there. is.last other held (record-taken other held (key_in range entry) there) there.keyed;
  }

  -- and its bytes in its log are its record
  record_is : AreLogFiles files → (range : EntryRange) (entry : ℕ) (standing : Standing)
      → (is : IsLastIn range (entries_in_logs (finite.entries files)) entry standing)
      → record_in (file_of files standing.log) standing.found ≡ record_of is.payload
  unfolding HasRecord
  record_is bytes range entry standing is =
      let file = file_of files standing.log in
      let stands : In (standing.found.at, is.payload) (records_of file) = taken-record (place_of standing) is.payload is.there in
      let here = (stands_once file standing.found.at).computed is.payload (file_bytes files standing.log bytes) stands in
      ap (λ n. take n (drop (standing.found.at - 4) file)) is.sized ∙ ap (take (4 + length is.payload)) here.begins.is
      ∙ take_at (record_of is.payload) here.begins.behind (4 + length is.payload) (length-record_of is.payload)

  -- ---- the export

  -- the payload of a record in its log
  abbrev payload_in : ℕ × Standing → ℕ × List ℕ
  payload_in e = (e.0, take (e.1.found.size - 4) (drop e.1.found.at (file_of files e.1.log)))

  payload_is : AreLogFiles files → (range : EntryRange) (entry : ℕ) (standing : Standing)
      → (is : IsLastIn range (entries_in_logs (finite.entries files)) entry standing) → payload_in (entry, standing) ≡ (entry, is.payload)
  unfolding HasRecord
  payload_is bytes range entry standing is =
      let file = file_of files standing.log in
      let stands : In (standing.found.at, is.payload) (records_of file) = taken-record (place_of standing) is.payload is.there in
      let here = (stands_once file standing.found.at).computed is.payload (file_bytes files standing.log bytes) stands in
      let long : standing.found.size - 4 ≡ length is.payload = omega (arith, is.sized) in
      ap (λ (p : List ℕ). (entry, p)) (ap (λ n. take n (drop standing.found.at file)) long ∙ payload_of file is.payload standing.found.at here)

  module _ (logged : AreLogFiles files) (range : EntryRange) (records : BTreeMap ℕ Standing) (ordered : IsOrdered nat_cmp records)
      (has : HasLast range records (entries_in_logs (finite.entries files))) where
    lasts : (entry : ℕ) → LastIn range (entries_in_logs (finite.entries files)) entry (tree.get nat_cmp records entry)
    lasts = has entries_in_order

    -- a record of the map is the last one of its entry
    listed_last : (e : ℕ × Standing) → In e records.entries → IsLastIn range (entries_in_logs (finite.entries files)) e.0 e.1
    listed_last e there =
        let at = In-place e records.entries there in
        subst (LastIn range (entries_in_logs (finite.entries files)) e.0)
        (btree_map_get_place nat_cmp_total records at.0 e.0 e.1 ordered at.1) (lasts e.0)

    each_is : (entry : ℕ) (payload : List ℕ) → In (entry, payload) (map payload_in records.entries) ↔ IsExported range files entry payload
    each_is entry payload = (
      λ there.
          let found = map-In payload_in (entry, payload) records.entries there in
          let e = found.0 in
          let is = listed_last e found.1.0 in
          let same : ◌≡◌ {A = ℕ × List ℕ} (e.0, is.payload) (entry, payload) = sym (payload_is logged range e.0 e.1 is) ∙ found.1.1 in
          subst (λ (x : ℕ × List ℕ). IsExported range files x.0 x.1) same
          (is.asked, entry-scan files (key_in range e.0) (place_of e.1) is.payload (last_is range e.0 e.1 is)),
      λ exported.
          let scanned = scan-entry files (key_in range entry) payload exported.1 in
          let there = record-taken scanned.0 payload (key_in range entry) scanned.1.here in
          elim (tree.get nat_cmp records entry) as (λ o. tree.get nat_cmp records entry ≡ o
          → LastIn range (entries_in_logs (finite.entries files)) entry o → In (entry, payload) (map payload_in records.entries)) [
            | None ↦ λ _ none. absurd (none exported.0 scanned.0 payload there scanned.1.here.keyed)
            | Some standing ↦ λ got is.
                let same : Some is.payload ≡ Some payload =
                sym (entry-scan files (key_in range entry) (place_of standing) is.payload (last_is range entry standing is)) ∙ exported.1 in
                let bytes : is.payload ≡ payload = cc in
                subst (λ (x : ℕ × List ℕ). In x (map payload_in records.entries))
                (payload_is logged range entry standing is ∙ ap (λ (p : List ℕ). (entry, p)) bytes)
                (In-map payload_in (entry, standing) records.entries
                (find-In nat_cmp_total nat_cmp-IsAntisymmetric entry records.entries standing (find-lookup nat_cmp entry records.entries ∙ got)))
          ] refl (lasts entry),
    )

    texts_are : (es : List (ℕ × Standing)) → ((e : ℕ × Standing) → In e es → In e records.entries)
        → records_in files es ≡ flat_map (λ e. record_of e.1) (map payload_in es)
    texts_are [] all = refl
    texts_are (e ∷ es) all =
        let is = listed_last e (all e (inl refl)) in
        ap₂ (λ (a b : List ℕ). a ++ b)
        (record_is logged range e.0 e.1 is ∙ ap (λ (x : ℕ × List ℕ). record_of x.1) (sym (payload_is logged range e.0 e.1 is)))
        (texts_are es (λ x there. all x (inr there)))

    keys_stay : (es : List (ℕ × Standing)) → map (λ e. e.0) (map payload_in es) ≡ map (λ e. e.0) es
    keys_stay [] = refl
    keys_stay (e ∷ es) = ap (λ (l : List ℕ). e.0 ∷ l) (keys_stay es)

    -- what is written of the records of the map is the export
    pub export_is : (before now : Option (List ℕ)) → Appends before now (records_in files records.entries) → WritesText (IsExport range files) before now
    export_is before now appended = (
      records_in files records.entries,
      record {
        entries = map payload_in records.entries;
        rising = subst (IsStrictlySortedBy nat_cmp) (sym (keys_stay records.entries)) ordered;
        each = each_is;
        are = texts_are records.entries (λ e there. there);
      },
      appended,
    )

    -- the log of each record is there
    pub log_there : (e : ℕ × Standing) → In e records.entries → IsNone (finite.get files e.1.log) → ⊥
    log_there e there none =
        let is = listed_last e there in
        no_record files (place_of e.1) is.payload (none_is (finite.get files e.1.log) none) (taken-record (place_of e.1) is.payload is.there)

-- one round of an export that took in all logs: all is written
pub round_done : (old mid : Files) (range asked : EntryRange) (now : EntryRange) (records : BTreeMap ℕ Standing) (before began after : Option (List ℕ))
    → AreLogFiles old → mid ≡ old → asked ≡ range → now ≡ asked → HasLast now records (entries_in_logs (finite.entries mid)) → IsOrdered nat_cmp records
    → began ≡ before → Appends began after (records_in mid records.entries) → WritesText (IsExport range old) before after
round_done old mid range asked now records before began after logged same is now_is has ordered start wrote =
    export_is old logged range records ordered
    (subst (λ (r : EntryRange). HasLast r records (entries_in_logs (finite.entries old))) (now_is ∙ is)
    (subst (λ (fs : Files). HasLast now records (entries_in_logs (finite.entries fs))) same has)) before after
    (subst (λ (o : Option (List ℕ)). Appends o after (records_in old records.entries)) start
    (subst (λ (fs : Files). Appends began after (records_in fs records.entries)) same wrote))

-- or no log of a record is missing
pub round_whole : (old mid late : Files) (now : EntryRange) (records : BTreeMap ℕ Standing) (entry : ℕ) (before after : Option (List ℕ))
    → AreLogFiles old → mid ≡ old → late ≡ old → HasLast now records (entries_in_logs (finite.entries mid)) → IsOrdered nat_cmp records
    → WritesAll late records.entries (Some entry) before after → ⊥
round_whole old mid late now records entry before after logged same later has ordered missing =
    log_there old logged now records ordered
    (subst (λ (fs : Files). HasLast now records (entries_in_logs (finite.entries fs))) same has)
    (entry, missing.0) missing.1 (subst (λ (fs : Files). IsNone (finite.get fs missing.0.log)) later missing.2)
