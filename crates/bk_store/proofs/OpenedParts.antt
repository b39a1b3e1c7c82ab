-- The parts of a store that was opened on logs satisfies the store invariant.
use Rattle.std.proofs.Common.{◌≡◌, inl, inr, ℕ, ◌+◌, ◌<◌, ◌≤◌, ◌^◌, Bool, IsTrue, List, [], ◌∷◌, take, Some, None}
use Rattle.std.proofs.Common.{Option, option_map, unwrap_or, is_some, if◌then◌else◌, refl, sym, ap, subst, ◌∙◌, arith}
use Rattle.std.specs.Option.{option_or, option_map_or}
use Rattle.std.proofs.lemmas.List.{take_all}
use Rattle.std.proofs.lemmas.Option.{none-some, same_Some}
use Rattle.std.proofs.lemmas.Cmp.{nat_cmp_total}
use Rattle.std.specs.Ordering.{nat_cmp}
use Rattle.std.specs.FinMap as finite
use Rattle.std.specs.FinMap.{nat_cmp-IsAntisymmetric}
use Rattle.std.specs.FinSet as set
use Rattle.bk_record.specs.Key.{EntryKey, key_cmp}
use Rattle.bk_record.specs.Location.{Place}
use Rattle.bk_record.specs.Files.{Files, file_of, header_length, In}
use Rattle.bk_record.specs.Keyed.{log_count}
use Rattle.bk_record.specs.Scan.{Ledgers, scan_of, live, entries_of}
use Rattle.bk_record.proofs.Entries.{In-map, map-In, flat_map-In, get-In}
use Rattle.bk_record.proofs.Growth.{In-append_right}
use Rattle.bk_disk.specs.Disk.{IsFile, view_end}
use Rattle.bk_disk.specs.Durable.{IsDurable}
use Rattle.bk_log.specs.declared.found.Found.{Found}
use Rattle.bk_log.specs.Growing.{HasNoBadLength}
use Rattle.bk_accounts.specs.Book.{named_in, total_at}
use Rattle.bk_accounts.specs.Sums.{AreSums, all_bytes, live_bytes, live_bytes_of}
use Rattle.bk_accounts.proofs.CallerLaws.{sums_new}
use Rattle.bk_cache.specs.Caches as caches
use Rattle.bk_store.specs.Entries.{IsIndexOf}
use Rattle.bk_store.specs.Representation.{Cached, Represents}
use Rattle.bk_store.specs.Logs.{View, Log, Logs, found_log, open_parts, is_open, published_part}
use Rattle.bk_store.specs.Ledgers.{opened_ledgers}
use Rattle.bk_store.specs.Fronts.{fronts_at}
use Rattle.bk_store.specs.State.{StoreParts}
use Rattle.bk_store.specs.Contents.{written_at}
use Rattle.bk_lease.specs.Values.{SlotTable}
use Rattle.bk_store.specs.Limits.{IsAllowed}
use Rattle.bk_store.specs.SlotAssignment.{IsSeated}
use Rattle.bk_store.specs.Invariant.{HeldLogInvariant, StructuralInvariant, LogMatchesFile, ContentInvariant, entry_measure, acknowledged_entries}
use Rattle.bk_store.specs.Opening.{HoldsFiles, Opens}
use Rattle.bk_store.specs.Found.{LogRead, IsRead, IsReadWhole, AreTaken, AllDurable, with_reads, named_by}
use Rattle.bk_store.specs.declared.settings.Settings.{Settings}
use Rattle.bk_store.specs.declared.open.tally.Tally.{Tally}
use Rattle.bk_store.proofs.Cases.{some_or_none, some_value}
use Rattle.bk_store.proofs.Growing.{none_stands, entry_same}
use Rattle.bk_store.proofs.RemovedFiles.{HasNone, harmless_none}
use Rattle.bk_store.proofs.TrailMoves.{replays_none, follows_none}
use Rattle.bk_store.proofs.InvariantParts.{none_placed, all_unplaced}
use Rattle.bk_store.proofs.EntryLists.{IsIndexOfList, list_empty, list_index}
use Rattle.bk_store.proofs.Walks.{walked, keyed_at}
use Rattle.bk_store.proofs.HeldWalks.{files_walked}
use Rattle.bk_store.proofs.Opening.{carries_opened}
use Rattle.bk_store.proofs.OpenedSums.{found_measure, Lists, with_lists, no_names, names_in, dead-reads, sums_reads, sums_named}
use Rattle.bk_store.proofs.OpenedTotals.{same_total, same_live, same_part}
use Rattle.bk_store.proofs.OpenedLists.{found_in, found_in_all, indexed_reads, found_walked}
use Rattle.bk_store.proofs.OpenedLogs.{IsHeldAs, IsElsewhere, HeldOr, each_log, id_below, next_cases, all-In}
use Rattle.bk_store.proofs.Seating.{none_held}

-- nothing was tallied yet
abbrev pub started : Ledgers → Tally
started dead = record { index = finite.empty; accounts = finite.empty; dead = dead }

-- the parts of a store that was opened
abbrev pub opened_parts : Settings → Files → Files → Files → Bool → ℕ → Tally → Logs → SlotTable → ℕ → StoreParts
opened_parts settings files synced gone honest failures t logs keeper next = record {
  state = record {
    settings = settings;
    files = files;
    honest = honest;
    failures = failures;
    caches = caches.new_caches settings.cache_limit settings.recent;
    places = finite.empty;
    index = t.index;
    logs = logs;
    keeper = keeper;
    next = next;
    ledgers = opened_ledgers t.dead;
    fronts = fronts_at 0;
    job = None;
  };
  accounts = named_by (finite.entries t.index) t.accounts;
  writing = None;
  filled = [];
  synced = synced;
  gone = gone;
}

abbrev pub no_lists : Lists
no_lists _ = None

-- what a log shows, where keys may point into it
abbrev shown_part : Log → List ℕ
shown_part log = if is_open log.state then published_part log else []

plus : (n : ℕ) → 0 + n ≡ n
plus n = omega arith

module _ (settings : Settings) (honest : Bool) (files synced gone : Files) (failures : ℕ) (dead : Ledgers) (ids : List ℕ) (next : ℕ) (t : Tally)
    (logs : Logs) (taken : AreTaken honest files ids next (started dead) t finite.empty logs) (keeper : SlotTable) where
  abbrev p : StoreParts
  p = opened_parts settings files synced gone honest failures t logs keeper next

  dead_is : t.dead ≡ dead
  dead_is = ap (λ (x : Tally). x.dead) taken.taken ∙ dead-reads (started dead) taken.reads

  index_list : IsIndexOfList (found_in_all taken.reads) t.dead t.index
  index_list =
      subst (λ (x : Tally). IsIndexOfList (found_in_all taken.reads) t.dead x.index) (sym taken.taken)
      (subst (λ d. IsIndexOfList (found_in_all taken.reads) d (with_reads (started dead) taken.reads).index) (sym dead_is)
      (indexed_reads (started dead) taken.reads [] (list_empty dead)))

  pub counted : AreSums found_measure (set.contains t.dead) (with_lists no_lists taken.reads) no_names t.accounts
  counted =
      subst (λ (x : Tally). AreSums found_measure (set.contains t.dead) (with_lists no_lists taken.reads) no_names x.accounts) (sym taken.taken)
      (subst (λ d. AreSums found_measure (set.contains d) (with_lists no_lists taken.reads) no_names (with_reads (started dead) taken.reads).accounts)
      (sym dead_is)
      (sums_reads (started dead) no_lists taken.reads (sums_new found_measure (set.contains dead) no_names)))

  sums : AreSums found_measure (set.contains t.dead) (with_lists no_lists taken.reads) (log_count t.index) (named_by (finite.entries t.index) t.accounts)
  sums =
      subst (λ f. AreSums found_measure (set.contains t.dead) (with_lists no_lists taken.reads) f (named_by (finite.entries t.index) t.accounts))
      (λ i log. plus (names_in (finite.entries t.index) log) i)
      (sums_named (finite.entries t.index) no_names t.accounts counted)

  -- each log is held as it was read, or is not held
  each_held : (id : ℕ) → HeldOr taken.reads no_lists finite.empty (with_lists no_lists taken.reads) logs id
  each_held id =
      subst (λ l. HeldOr taken.reads no_lists finite.empty (with_lists no_lists taken.reads) l id) (sym taken.held_are)
      (each_log taken.reads no_lists finite.empty id)

  abbrev IsRead_of : ℕ → Log → LogRead → Type 0
  IsRead_of id log r = IsHeldAs taken.reads (with_lists no_lists taken.reads) logs id r × (log ≡ found_log r.view r.slot r.end)

  read_of : (id : ℕ) (log : Log) → finite.get logs id ≡ Some log → (r : LogRead) × IsRead_of id log r
  read_of id log is = elim (each_held id) [
    | inl apart ↦ absurd (none_held id log (sym apart.held ∙ is))
    | inr found ↦ (found.0, (found.1, same_Some log (found_log found.0.view found.0.slot found.0.end) (sym is ∙ found.1.held)))
  ]

  -- a read is of one of the ids
  id_in : (r : LogRead) → In r taken.reads → In r.id ids
  id_in r there = subst (In r.id) taken.ids_are (In-map (λ (x : LogRead). x.id) r taken.reads there)

  -- a log with a key in the index was read
  sent_read : (key : EntryKey) (place : Place) → finite.get t.index key ≡ Some place
      → (r : LogRead) × IsHeldAs taken.reads (with_lists no_lists taken.reads) logs place.log r
  sent_read key place named =
      let l = index_list.sent key place named in
      let there : In (place, key) (found_in_all taken.reads) =
      subst (In (place, key)) (sym l.entries_are) (In-append_right (place, key) l.before ((place, key) ∷ l.behind) (inl refl)) in
      let read = flat_map-In (λ (r : LogRead). found_in r.id r.founds) (place, key) taken.reads there in
      let found = map-In (λ (f : Found). keyed_at read.0.id f.at f.key) (place, key) read.0.founds read.1.1 in
      let own : read.0.id ≡ place.log = ap (λ (x : Place × EntryKey). x.0.log) found.1.1 in
      elim (each_held place.log) [
        | inl apart ↦ absurd (apart.apart read.0 read.1.0 own)
        | inr held ↦ held
      ]

  -- ---- on any disk

  kept_log : (id : ℕ) (log : Log) → finite.get logs id ≡ Some log → HeldLogInvariant next id log
  kept_log id log is =
      let r = read_of id log is in
      subst (HeldLogInvariant next id) (sym r.1.1) (record {
        below = subst (λ n. n < next) r.1.0.own (id_below 0 next ids r.0.id taken.rising (id_in r.0 r.1.0.there));
        written = λ wrong. cc;
        by = λ w wrong. cc;
      })

  ids_fit : next ≤ 2 ^ 31
  ids_fit = elim (next_cases 0 next ids taken.rising) [
    | inl none ↦ omega (arith, none)
    | inr last ↦ omega (arith, last.1.0, last.1.1.0)
  ]

  named_here : (id : ℕ) → named_in (named_by (finite.entries t.index) t.accounts) id ≡ option_map (λ _. log_count t.index id) (finite.get logs id)
  named_here id = sums.named id ∙ elim (each_held id) [
    | inl apart ↦
        ap (option_map (λ _. log_count t.index id)) apart.listed
        ∙ ap (option_map (λ _. log_count t.index id)) (sym (apart.held ∙ finite.get-empty nat_cmp id))
    | inr held ↦ ap (option_map (λ _. log_count t.index id)) held.1.listed ∙ ap (option_map (λ _. log_count t.index id)) (sym held.1.held)
  ]

  total_here : (id : ℕ) (log : Log) → finite.get logs id ≡ Some log
      → total_at (named_by (finite.entries t.index) t.accounts) id + header_length ≤ log.acknowledged
  total_here id log is =
      let r = read_of id log is in
      let total : total_at (named_by (finite.entries t.index) t.accounts) id ≡ all_bytes found_measure r.0.founds =
      ap (λ o. unwrap_or o 0) (sums.total id ∙ ap (option_map (all_bytes found_measure)) r.1.0.listed) in
      let long : log.acknowledged ≡ r.0.end = ap (λ (l : Log). l.acknowledged) r.1.1 in
      let fits = (all-In (IsRead honest files) r.0 taken.reads taken.each r.1.0.there).fits in
      omega (arith, total, long, fits)

  pub opened_fits : IsAllowed settings → IsSeated settings keeper logs → StructuralInvariant p
  opened_fits allowed seated = record {
    limits = record { allowed = allowed; limit = refl; ids = ids_fit };
    logs = record {
      seated = seated;
      each = kept_log;
      writing = λ id. (λ wrong. cc, λ w. let r = read_of id w.0 w.1 in let readable = ap (λ (l : Log). l.state) r.1.1 in let writes = w.2 in cc);
      filled = λ id log is fills.
          let r = read_of id log is in let readable = ap (λ (l : Log). l.state) r.1.1 in elim fills [ inl wrong ↦ cc | inr wrong ↦ cc ];
    };
    sent = λ key place named.
        let r = sent_read key place named in
        record { log = found_log r.0.view r.0.slot r.0.end; view = r.0.view; held = r.1.held; opened = refl; view_is = refl };
    placed = all_unplaced p.state.caches.flush finite.empty logs refl;
    ledgers = follows_none t.dead;
    accounts = record { named = named_here; total = total_here };
  }

  -- ---- on an honest disk

  module _ (is : IsTrue honest) (listed : ids ≡ finite.keys files) where
    whole_read : (r : LogRead) → In r taken.reads → IsReadWhole files r
    whole_read r there = (all-In (IsRead honest files) r taken.reads taken.each there).whole is

    -- a file is that of a log that was read
    file_in : (id : ℕ) (file : List ℕ) → IsFile files id file → In id ids
    file_in id file stands =
        subst (In id) (sym listed) (In-map (λ (e : ℕ × List ℕ). e.0) (id, file) (finite.entries files)
        (get-In nat_cmp_total nat_cmp-IsAntisymmetric files id file stands))

    in_file : (id : ℕ) → In id ids → (file : List ℕ) × IsFile files id file
    in_file id there =
        let r = map-In (λ (x : LogRead). x.id) id taken.reads (subst (In id) (sym taken.ids_are) there) in
        (r.0.view.bytes, subst (λ n. IsFile files n r.0.view.bytes) r.1.1 (whole_read r.0 r.1.0).stands)

    file_read : (id : ℕ) (file : List ℕ) → IsFile files id file → (r : LogRead) × IsHeldAs taken.reads (with_lists no_lists taken.reads) logs id r
    file_read id file stands =
        let r = map-In (λ (x : LogRead). x.id) id taken.reads (subst (In id) (sym taken.ids_are) (file_in id file stands)) in
        elim (each_held id) [
          | inl apart ↦ absurd (apart.apart r.0 r.1.0 r.1.1)
          | inr held ↦ held
        ]

    -- what a held log shows is its file
    read_file : (id : ℕ) (r : LogRead) → IsHeldAs taken.reads (with_lists no_lists taken.reads) logs id r → IsFile files id r.view.bytes
    read_file id r held = subst (λ n. IsFile files n r.view.bytes) held.own (whole_read r held.there).stands

    file_is : (id : ℕ) (r : LogRead) → IsHeldAs taken.reads (with_lists no_lists taken.reads) logs id r → file_of files id ≡ r.view.bytes
    file_is id r held = ap (λ (o : Option (List ℕ)). unwrap_or o []) (read_file id r held)

    part_is : (id : ℕ) (r : LogRead) → IsHeldAs taken.reads (with_lists no_lists taken.reads) logs id r → open_parts logs id ≡ file_of files id
    part_is id r held = ap (λ (o : Option Log). option_map_or shown_part o []) held.held ∙ sym (file_is id r held)

    acknowledged_is : (id : ℕ) (r : LogRead) → IsHeldAs taken.reads (with_lists no_lists taken.reads) logs id r
        → acknowledged_entries files logs id ≡ Some (entries_of r.view.bytes)
    acknowledged_is id r held =
        let all : take r.end r.view.bytes ≡ r.view.bytes = take_all r.end r.view.bytes (omega (arith, (whole_read r held.there).end_is)) in
        ap (option_map (λ (log : Log). entries_of (take log.acknowledged (file_of files id)))) held.held
        ∙ ap (λ (b : List ℕ). Some (entries_of (take r.end b))) (file_is id r held) ∙ ap (λ (b : List ℕ). Some (entries_of b)) all

    none_acknowledged : (id : ℕ) → finite.get logs id ≡ None → acknowledged_entries files logs id ≡ None
    none_acknowledged id none = ap (option_map (λ (log : Log). entries_of (take log.acknowledged (file_of files id)))) none

    not_held : (id : ℕ) → IsElsewhere taken.reads no_lists finite.empty (with_lists no_lists taken.reads) logs id → finite.get logs id ≡ None
    not_held id apart = apart.held ∙ finite.get-empty nat_cmp id

    -- a sum over what was found of a log is that over its acknowledged entries
    same_sums : {X : Type 0} (f : List Found → X) (g : List (ℕ × List ℕ) → X)
        → ((r : LogRead) → In r taken.reads → f r.founds ≡ g (entries_of r.view.bytes)) → (id : ℕ)
        → option_map f (with_lists no_lists taken.reads id) ≡ option_map g (acknowledged_entries files logs id)
    same_sums f g same id = elim (each_held id) [
      | inl apart ↦ ap (option_map f) apart.listed ∙ ap (option_map g) (sym (none_acknowledged id (not_held id apart)))
      | inr held ↦
          ap (option_map f) held.1.listed ∙ ap Some (same held.0 held.1.there) ∙ ap (option_map g) (sym (acknowledged_is id held.0 held.1))
    ]

    whole_index : IsIndexOf (file_of files) t.dead t.index
    whole_index =
        list_index (files_walked files)
        (subst (λ ns. IsIndexOfList (walked (file_of files) ns) t.dead t.index) (taken.ids_are ∙ listed)
        (subst (λ l. IsIndexOfList l t.dead t.index) (found_walked honest files taken.reads is taken.each) index_list))

    none_written : (key : EntryKey) → None ≡ written_at p.state key
    none_written key = sym (
        ap (λ (o : Option (List ℕ)). option_or o (finite.get (caches.flush_of p.state.caches) key)) (finite.get-empty key_cmp key)
        ∙ finite.get-empty key_cmp key
        )

    pub opened_promises : AllDurable files synced ids → HasNone gone → ContentInvariant p
    opened_promises kept none = record {
      map = record {
        carried = live (scan_of files) t.dead;
        carries = subst (λ (c : Cached). Represents (file_of files) t.index c t.dead (live (scan_of files) t.dead)) (λ i key. none_written key i)
            (carries_opened files whole_index);
        harmless = harmless_none gone none;
        recent = λ key payload wrong. cc;
        replays = replays_none (live (scan_of files) t.dead);
      };
      shows = record {
        stands = λ place key payload entry. elim (each_held place.log) [
          | inl apart ↦ absurd (none_stands place key payload (ap (λ (o : Option Log). option_map_or shown_part o []) (not_held place.log apart)) entry)
          | inr held ↦ entry_same place key payload (part_is place.log held.0 held.1) entry
        ];
        shown = λ key place named.
            let held = sent_read key place named in
            let last = whole_index.sent key place named in
            (last.0, entry_same place key last.0 (sym (part_is place.log held.0 held.1)) last.1.here);
      };
      counted = record {
        total = λ id. sums.total id ∙ same_sums (all_bytes found_measure) (all_bytes entry_measure)
            (λ r there. same_total (entries_of r.view.bytes) r.founds (whole_read r there).found) id;
        remaining = λ id. sums.remaining id ∙ same_sums (live_bytes found_measure (set.contains t.dead)) (live_bytes entry_measure (set.contains t.dead))
            (λ r there. same_live (entries_of r.view.bytes) r.founds (whole_read r there).found (set.contains t.dead)) id;
        by_ledger = λ id ledger. sums.by_ledger id ledger
            ∙ same_sums (live_bytes_of found_measure (set.contains t.dead) ledger) (live_bytes_of entry_measure (set.contains t.dead) ledger)
            (λ r there. same_part (entries_of r.view.bytes) r.founds (whole_read r there).found (set.contains t.dead) ledger) id;
        named = λ id. sums.named id ∙ same_sums (λ _. log_count t.index id) (λ _. log_count t.index id) (λ r there. refl) id;
      };
      logs = record {
        each = λ id log there.
            let r = read_of id log there in
            subst (LogMatchesFile files synced id) (sym r.1.1) (record {
              stands = ap is_some (read_file id r.0 r.1.0);
              writes = λ w wrong. cc;
              honest = λ view shows. subst (λ (v : View). IsTrue v.is_honest) (same_Some r.0.view view shows) (whole_read r.0 r.1.0.there).honest;
              spelled = subst HasNoBadLength (sym (file_is id r.0 r.1.0)) (whole_read r.0 r.1.0.there).opens.whole;
              shown = λ view shows. subst (λ (v : View). HasNoBadLength v.bytes) (same_Some r.0.view view shows) (whole_read r.0 r.1.0.there).opens.whole;
              kept = λ view shows _. subst (λ (v : View). IsDurable synced id v.bytes) (same_Some r.0.view view shows)
                  (subst (IsDurable synced id) (file_is id r.0 r.1.0) (kept id (subst (λ n. In n ids) r.1.0.own (id_in r.0 r.1.0.there))));
            });
        fresh = λ id past. elim (some_or_none (finite.get files id)) [
          | inl none ↦ none
          | inr there ↦ absurd (omega (arith, past, id_below 0 next ids id taken.rising (file_in id there.0 there.1)))
        ];
      };
      placed = λ key place wrong. absurd (none_placed finite.empty key place refl wrong);
    }

    pub opened_files : HoldsFiles files p.state
    opened_files = record {
      same = refl;
      opens = λ id file stands.
          let held = file_read id file stands in
          subst Opens (same_Some held.0.view.bytes file (sym (read_file id held.0 held.1) ∙ stands)) (whole_read held.0 held.1.there).opens;
      index = whole_index;
      logs = λ id file stands.
          let held = file_read id file stands in
          let whole = whole_read held.0 held.1.there in
          let shows : held.0.view.bytes ≡ file = same_Some held.0.view.bytes file (sym (read_file id held.0 held.1) ∙ stands) in
          record {
            view = held.0.view;
            slot = held.0.slot;
            held = held.1.held ∙ ap (λ n. Some (found_log held.0.view held.0.slot n)) (whole.end_is ∙ ap view_end shows);
            honest = whole.honest;
            shows = shows;
          };
      none = λ id none. elim (each_held id) [
        | inl apart ↦ not_held id apart
        | inr held ↦ absurd (none-some held.0.view.bytes (sym none ∙ read_file id held.0 held.1))
      ];
      next = record {
        above = λ id some. let there = some_value (finite.get files id) some in id_below 0 next ids id taken.rising (file_in id there.0 there.1);
        least = elim (next_cases 0 next ids taken.rising) [
          | inl none ↦ inl none
          | inr last ↦ let file = in_file last.0 last.1.1.1 in inr (last.0, last.1.0, ap is_some file.1)
        ];
      };
    }
