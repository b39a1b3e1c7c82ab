-- An entry of the flush that is written preserves the store invariant.
use Rattle.std.proofs.Common.{◌≡◌, ◌≢◌, inl, inr, ℕ, ◌+◌, ◌≤◌, Bool, true, false, cond, eqb, IsTrue, List, [], ◌∷◌, ◌++◌, length, take}
use Rattle.std.proofs.Common.{Option, Some, None, is_some, option_map, unwrap_or, Result, Ok, Err, refl, sym, ap, subst, ◌∙◌, arith}
use Rattle.std.specs.FinMap as finite
use Rattle.std.specs.FinSet as set
use Rattle.std.proofs.lemmas.Bool.{eqb-true, eq-eqb}
use Rattle.bk_record.specs.Key.{EntryKey}
use Rattle.bk_record.specs.Location.{Place}
use Rattle.bk_record.specs.Record.{IsPayload, key_of, record_of}
use Rattle.bk_record.specs.Files.{Files, file_of, records_of, In}
use Rattle.bk_record.specs.Scan.{entries_of}
use Rattle.bk_record.specs.Keyed.{log_count}
use Rattle.bk_record.proofs.Growth.{In-append_right}
use Rattle.bk_record.proofs.ReadKeys.{addable, addable_payload}
use Rattle.bk_disk.specs.Disk.{files_after_append}
use Rattle.bk_log.specs.Writing as writers
use Rattle.bk_log.specs.Writing.{with_put}
use Rattle.bk_log.specs.Growing.{Gains, put_record}
use Rattle.bk_log.specs.declared.fault.LogFault.{LogFault}
use Rattle.bk_log.specs.declared.fault.LogFault.TheVariants as log_faults
use Rattle.bk_log.proofs.Gains.{put_gains}
use Rattle.bk_log.proofs.Writes.{writes_put}
use Rattle.bk_log.proofs.Tallies.{key_of-ledger}
use Rattle.bk_cache.specs.Caches as caches
use Rattle.bk_cache.specs.Invariant.{IsSound}
use Rattle.bk_accounts.specs.Book.{Book, total_in, after_ready, after_count}
use Rattle.bk_accounts.specs.Sums.{AreSums}
use Rattle.bk_accounts.proofs.BookLaws.{total_in-after_count, named_in-after_count, named_in-after_ready}
use Rattle.bk_accounts.proofs.CallerLaws.{sums_ready, sums_count}
use Rattle.bk_store.specs.Entries.{HasEntry}
use Rattle.bk_store.specs.Published.{IndexIsPublished}
use Rattle.bk_store.specs.Logs.{Log, is_open, unwritten_log, state_after_failed_append, log_after_failed_append}
use Rattle.bk_store.specs.State.{State, StoreParts}
use Rattle.bk_store.specs.Invariant.{StoreInvariant, StructuralInvariant, ContentInvariant, HeldLogInvariant, IsWrittenBy, entry_measure, acknowledged_entries}
use Rattle.bk_store.specs.Appending.{next_place, grown_log}
use Rattle.bk_store.specs.Primitives.{CanAppendFlushed, AppendFlushedTransition, state_with_place}
use Rattle.bk_store.specs.Internals.{AppendFlushedInternals, unless_log}
use Rattle.bk_store.specs.declared.log.LogState.TheVariants.{Writing, Filled}
use Rattle.bk_store.proofs.InvariantParts.{with_state}
use Rattle.bk_store.proofs.PublishedMoves.{shows_grown}
use Rattle.bk_store.proofs.LogMaps.{log-inserted}
use Rattle.bk_store.proofs.OneLog.{views_stay, flush_logs_stay, writing_same, entries_here, entries_else, entries_were}
use Rattle.bk_store.proofs.Acknowledged.{entries_whole, entries_push}
use Rattle.bk_store.proofs.Closing.{parts_same}
use Rattle.bk_store.proofs.InvariantSetState.{one_log}
use Rattle.bk_store.proofs.InvariantSeal.{closed_promise, closed_fits, filled_flush}
use Rattle.bk_store.proofs.InvariantOneLog.{with_one, fits_one, promises_one, job_in, keeps_failures}
use Rattle.bk_store.proofs.JobStays.{job_unflushed}
use Rattle.bk_store.proofs.InvariantNotePlace.{flush_written, put_mapped, total_readied, keeps_ready, keeps_noted}

-- ---- the record is written

counted_total : (size : ℕ) (same : Bool) (o : Option ℕ) → unwrap_or (option_map (λ total. cond same (total + size) total) o) 0 ≤ unwrap_or o 0 + size
counted_total size true None = omega arith
counted_total size false None = omega arith
counted_total size true (Some n) = omega arith
counted_total size false (Some n) = omega arith

uncounted_total : (size : ℕ) (o : Option ℕ) → unwrap_or (option_map (λ total. cond false (total + size) total) o) 0 ≡ unwrap_or o 0
uncounted_total size None = refl
uncounted_total size (Some n) = refl

eqb_apart : (q id : ℕ) → q ≢ id → eqb q id ≡ false
eqb_apart q id apart = elim (eqb q id) as (λ b. eqb q id ≡ b → b ≡ false) [
  | true ↦ λ tied. absurd (apart (eqb-true q id tied))
  | false ↦ λ _. refl
] refl

module _ (p : StoreParts) (keeps : StoreInvariant p) (id : ℕ) (log : Log) (held : finite.get p.state.logs id ≡ Some log) (w : writers.Writing) (writer : log.writer ≡ Some w)
    (key : EntryKey) (payload : List ℕ) (legal : IsPayload payload) (keyed : key_of payload ≡ Some key) (files : Files) where
  abbrev new : Log
  new = grown_log log w payload

  abbrev counted_book : Book
  counted_book = after_count (after_ready p.accounts id key.ledger) id key.ledger (4 + length payload)

  by : IsWrittenBy id log w
  by = (keeps.fits.logs.each id log held).by w writer

  new_held : HeldLogInvariant p.state.next id new
  new_held = record {
    below = (keeps.fits.logs.each id log held).below;
    written = λ _. refl;
    by = λ v is.
        let same : with_put w payload ≡ v = cc in
        subst (λ x. IsWrittenBy id new x) same
        (record { state = by.state; own = by.own; going = by.going; long = refl; empty = λ wrong. absurd (omega (arith, wrong)) });
  }

  pub put_fits : StructuralInvariant (with_one p id new files p.state.failures counted_book p.writing)
  put_fits =
      let fits = keeps.fits in
      let size = 4 + length payload in
      let ready = after_ready p.accounts id key.ledger in
      fits_one p id log new held files p.state.failures counted_book p.writing fits refl refl new_held
      (λ k place is. views_stay p.state.logs id log new held (λ v o view_is. (o, (v, view_is))) place.log (fits.sent k place is))
      (λ k place is. flush_logs_stay p.state.logs id log new held (λ f. f) place.log (fits.placed.logs k place is))
      (writing_same p.state.logs id log new held (λ s. s) (λ s. s) p.writing fits.logs.writing) (fits.logs.filled id log held) (λ s. s)
      (λ q. named_in-after_count ready id key.ledger size q ∙ named_in-after_ready p.accounts id key.ledger q)
      (let most = counted_total size (eqb id id) (total_in ready id) in
      let now = ap (λ o. unwrap_or o 0) (total_in-after_count ready id key.ledger size id) in
      let was = total_readied p.accounts id key.ledger id in
      let old = fits.accounts.total id log held in
      let long = by.long in
      omega (arith, most, now, was, old, long))
      (λ q apart. ap (λ o. unwrap_or o 0) (total_in-after_count ready id key.ledger size q)
      ∙ ap (λ b. unwrap_or (option_map (λ total. cond b (total + size) total) (total_in ready q)) 0) (eqb_apart q id apart)
      ∙ uncounted_total size (total_in ready q) ∙ total_readied p.accounts id key.ledger q)

  module _ (reveal_invariant : ContentInvariant p) (mapped : finite.get reveal_invariant.map.carried key ≡ Some payload) (grew : files ≡ files_after_append p.state.files id (record_of payload)) where
    writes : writers.Writes p.state.files w
    writes = (reveal_invariant.logs.each id log held).writes w writer

    grew_own : files ≡ files_after_append p.state.files w.log (record_of payload)
    grew_own = grew ∙ ap (λ n. files_after_append p.state.files n (record_of payload)) (sym by.own)

    pub put_gained : Gains p.state.files id (put_record w payload) files
    put_gained = subst (λ n. Gains p.state.files n (put_record w payload) files) by.own
        (put_gains p.state.files files w payload (Ok (next_place w)) writes legal grew_own)

    new_writes : writers.Writes files (with_put w payload)
    new_writes = writes_put p.state.files files w payload writes legal (ap is_some keyed) grew_own

    -- the log has one more entry
    one_more_entry : entries_of (take new.acknowledged (file_of files id))
        ≡ entries_of (take log.acknowledged (file_of p.state.files id)) ++ put_record w payload
    one_more_entry =
        (λ i. entries_of (take new.acknowledged (file_of files (sym by.own i)))) ∙ entries_whole files (with_put w payload) new_writes
        ∙ entries_push (file_of p.state.files w.log) (file_of files w.log) (w.end + 4) payload key
        (subst (λ n. records_of (file_of files n) ≡ records_of (file_of p.state.files n) ++ put_record w payload) (sym by.own) put_gained.records) keyed
        ∙ ap (λ (es : List (ℕ × List ℕ)). es ++ put_record w payload)
        (sym (entries_whole p.state.files w writes) ∙ (λ i. entries_of (take (sym by.long i) (file_of p.state.files (by.own i)))))

    later : (q : ℕ) → acknowledged_entries files (finite.insert p.state.logs id new) q
        ≡ cond (eqb q id) (Some (entries_of (take log.acknowledged (file_of p.state.files id)) ++ (w.end + 4, payload) ∷ []))
        (acknowledged_entries p.state.files p.state.logs q)
    later q = elim (eqb q id) as (λ b. eqb q id ≡ b → acknowledged_entries files (finite.insert p.state.logs id new) q
        ≡ cond b (Some (entries_of (take log.acknowledged (file_of p.state.files id)) ++ (w.end + 4, payload) ∷ []))
        (acknowledged_entries p.state.files p.state.logs q)) [
          | true ↦ λ tied.
              ap (acknowledged_entries files (finite.insert p.state.logs id new)) (eqb-true q id tied) ∙ entries_here p.state.logs id log new held files
              ∙ ap (λ (es : List (ℕ × List ℕ)). Some es) one_more_entry
          | false ↦ λ other. entries_else p.state.logs id log new held p.state.files files put_gained.only q (λ same. let tied = eq-eqb q id same in cc)
        ] refl

    put_sums : AreSums entry_measure (set.contains p.state.ledgers.dead) (acknowledged_entries files (finite.insert p.state.logs id new))
        (log_count p.state.index) counted_book
    put_sums =
        let ledger = key_of-ledger payload key keyed in
        let alive = reveal_invariant.map.carries.lives key payload mapped in
        subst (λ l. AreSums entry_measure (set.contains p.state.ledgers.dead) (acknowledged_entries files (finite.insert p.state.logs id new)) (log_count p.state.index)
        (after_count (after_ready p.accounts id key.ledger) id l (4 + length payload))) (sym ledger)
        (sums_count entry_measure (sums_ready entry_measure reveal_invariant.counted id key.ledger) id (entries_of (take log.acknowledged (file_of p.state.files id)))
        (w.end + 4, payload) (acknowledged_entries files (finite.insert p.state.logs id new)) (entries_were p.state.logs id log new held p.state.files)
        (ap (set.contains p.state.ledgers.dead) (sym ledger) ∙ alive) later)

    pub put_promises : ContentInvariant (with_one p id new files p.state.failures counted_book p.writing)
    put_promises =
        let old = reveal_invariant.logs.each id log held in
        promises_one p id log new held files p.state.failures counted_book p.writing keeps.fits reveal_invariant (put_record w payload) put_gained
        (λ at b k there is_key _. put_mapped reveal_invariant.map.carried w key payload keyed mapped at b k there is_key)
        (λ stood. subst (λ ps. IndexIsPublished (file_of files) ps p.state.index) (λ i q. sym (parts_same p.state.logs id log new held refl refl q) i)
        (shows_grown reveal_invariant.shows (file_of files) stood))
        (record {
          stands = put_gained.stands old.stands;
          writes = λ v is. let same : with_put w payload ≡ v = cc in subst (λ x. writers.Writes files x) same new_writes;
          honest = old.honest;
          spelled = put_gained.spelled old.spelled;
          shown = old.shown;
          kept = old.kept;
        })
        put_sums

    pub put_stands : HasEntry (file_of files) (next_place w) key payload
    put_stands = record {
      stands =
          let records = subst (λ n. records_of (file_of files n) ≡ records_of (file_of p.state.files n) ++ put_record w payload)
          (sym by.own) put_gained.records in
          subst (λ rs. In (w.end + 4, payload) rs) (sym records)
          (In-append_right (w.end + 4, payload) (records_of (file_of p.state.files w.log)) (put_record w payload) (inl refl));
      keyed = keyed;
    }

-- ---- the transition

written_kept : (p : StoreParts) (id : ℕ) (key : EntryKey) (payload : List ℕ) → StoreInvariant p → CanAppendFlushed p.state id key
    → finite.get (caches.flush_of p.state.caches) key ≡ Some payload
    → IsSound p.state.caches → (log : Log) (w : writers.Writing) → finite.get p.state.logs id ≡ Some log → log.writer ≡ Some w → (files : Files)
    → (IsTrue p.state.honest → files ≡ files_after_append p.state.files id (record_of payload))
    → StoreInvariant (with_state (with_one p id (grown_log log w payload) files p.state.failures
    (after_count (after_ready p.accounts id key.ledger) id key.ledger (4 + length payload)) p.writing)
    (state_with_place (with_one p id (grown_log log w payload) files p.state.failures
    (after_count (after_ready p.accounts id key.ledger) id key.ledger (4 + length payload)) p.writing).state key (next_place w)))
written_kept p id key payload keeps may flushing sound log w held writer files grew =
    let read = sound.flush_keyed key payload flushing in
    let legal = addable_payload payload key read in
    let keyed = (addable payload key read).keyed in
    let was = one_log p id log Writing held (record { log = may.takes.log; held = may.takes.writer.held; state_is = may.takes.state_is }) in
    let own = ((keeps.fits.logs.each id log held).by w writer).own in
    let mapped = λ (reveal_invariant : ContentInvariant p). reveal_invariant.map.carries.cached_is key payload (flush_written p.state key payload sound.apart flushing) in
    let mid : StoreInvariant (with_one p id (grown_log log w payload) files p.state.failures
    (after_count (after_ready p.accounts id key.ledger) id key.ledger (4 + length payload)) p.writing) = record {
      fits = put_fits p keeps id log held w writer key payload legal keyed files;
      job = job_in p.state.keeper p id (grown_log log w payload) files p.state.failures
          (after_count (after_ready p.accounts id key.ledger) id key.ledger (4 + length payload)) p.writing keeps
          (λ job is. job_unflushed p.state job (keeps.job job is) id log held (inl was))
          (λ honest.
          let reveal_invariant = keeps.promises honest in
          (put_gained p keeps id log held w writer key payload legal keyed files reveal_invariant (mapped reveal_invariant) (grew honest)).only);
      fronts = keeps.fronts;
      promises = λ honest.
          let reveal_invariant = keeps.promises honest in
          put_promises p keeps id log held w writer key payload legal keyed files reveal_invariant (mapped reveal_invariant) (grew honest);
    } in
    keeps_noted (with_one p id (grown_log log w payload) files p.state.failures
    (after_count (after_ready p.accounts id key.ledger) id key.ledger (4 + length payload)) p.writing) key payload (next_place w) mid flushing
    (record { log = grown_log log w payload; held = log-inserted p.state.logs id (grown_log log w payload) w.log own; state_is = was })
    may.next.unplaced may.next.first
    (λ honest.
    let reveal_invariant = keeps.promises honest in
    put_stands p keeps id log held w writer key payload legal keyed files reveal_invariant (mapped reveal_invariant) (grew honest))

-- a write that failed leaves the log Filled, and no log Writing
failed_kept : (p : StoreParts) (id : ℕ) (key : EntryKey) (payload : List ℕ) → StoreInvariant p → CanAppendFlushed p.state id key
    → finite.get (caches.flush_of p.state.caches) key ≡ Some payload
    → IsSound p.state.caches → (log : Log) → finite.get p.state.logs id ≡ Some log → (files : Files) (failures : ℕ)
    → (IsTrue p.state.honest → (n : ℕ) × (files ≡ files_after_append p.state.files id (take n (record_of payload))))
    → StoreInvariant (with_one p id (log_after_failed_append log) files failures p.accounts None)
failed_kept p id key payload keeps may flushing sound log held files failures part =
    let takes = may.takes in
    let was = one_log p id log Writing held (record { log = takes.log; held = takes.writer.held; state_is = takes.state_is }) in
    let both : Some takes.log ≡ Some log = sym takes.writer.held ∙ held in
    let one : takes.log ≡ log = cc in
    let w = takes.w in
    let writer : log.writer ≡ Some w = ap (λ (l : Log). l.writer) (sym one) ∙ takes.writer.writer in
    let opened : is_open log.state ≡ true = ap is_open was in
    let own = ((keeps.fits.logs.each id log held).by w writer).own in
    let read = sound.flush_keyed key payload flushing in
    let legal = addable_payload payload key read in
    let keyed = (addable payload key read).keyed in
    let closes : unless_log p.writing id ≡ None =
    ap (λ o. unless_log o id) ((keeps.fits.logs.writing id).1 (log, held, was)) ∙ ap (λ b. cond b None (Some id)) (eq-eqb id id refl) in
    let gained = λ (honest : IsTrue p.state.honest).
    let grew = part honest in
    put_gains p.state.files files w payload (Err log_faults.Disk) (((keeps.promises honest).logs.each id log held).writes w writer) legal
    (grew.0, grew.1 ∙ ap (λ n. files_after_append p.state.files n (take grew.0 (record_of payload))) (sym own)) in
    let own_gains : (others : List (ℕ × List ℕ)) → Gains p.state.files w.log others files → Gains p.state.files id others files =
    λ others gains. subst (λ n. Gains p.state.files n others files) own gains in
    let state : unwritten_log Filled log ≡ log_after_failed_append log = ap (λ s. unwritten_log (state_after_failed_append s) log) (sym was) in
    subst (λ l. StoreInvariant (with_one p id l files failures p.accounts None)) state
    (subst (λ o. StoreInvariant (with_one p id (unwritten_log Filled log) files failures p.accounts o)) closes (record {
      fits = closed_fits p keeps id Filled log held w writer refl refl opened files failures (filled_flush p keeps id log held was)
          (λ _. keeps.fits.logs.filled id log held (inl was));
      job = job_in p.state.keeper p id (unwritten_log Filled log) files failures p.accounts (unless_log p.writing id) keeps
          (λ job is. job_unflushed p.state job (keeps.job job is) id log held (inl was))
          (λ honest. elim (gained honest) [ inl all ↦ (own_gains (put_record w payload) all).only | inr none ↦ (own_gains [] none).only ]);
      fronts = keeps.fronts;
      promises = λ honest.
          let reveal_invariant = keeps.promises honest in
          let mapped = reveal_invariant.map.carries.cached_is key payload (flush_written p.state key payload sound.apart flushing) in
          elim (gained honest) [
            | inl all ↦ closed_promise p keeps id Filled log held w writer refl refl opened files failures reveal_invariant (put_record w payload)
                (own_gains (put_record w payload) all)
                (λ at b k there is_key _. put_mapped reveal_invariant.map.carried w key payload keyed mapped at b k there is_key)
            | inr none ↦ closed_promise p keeps id Filled log held w writer refl refl opened files failures reveal_invariant []
                (own_gains [] none) (λ at b k never. absurd never)
          ];
    }))

pub keeps_write : (p q : StoreParts) (id : ℕ) (key : EntryKey) (payload : List ℕ) (result : Result Place LogFault) → StoreInvariant p → CanAppendFlushed p.state id key
    → finite.get (caches.flush_of p.state.caches) key ≡ Some payload → AppendFlushedTransition p.state id key payload result q.state
    → AppendFlushedInternals p id key payload result q → StoreInvariant q
keeps_write p q id key payload (Ok place) keeps may flushing turn beside =
    let w = turn.1.0 in
    let place_is = turn.1.2 in
    subst StoreInvariant (sym (beside.1 ∙ ap (λ (s : State). record p {
      state = s;
      accounts = after_count (after_ready p.accounts id key.ledger) id key.ledger (4 + length payload);
    }) (turn.1.4 ∙ ap (λ (x : Place). record (state_with_place p.state key x) {
      files = q.state.files;
      failures = p.state.failures;
      logs = finite.insert p.state.logs id (grown_log turn.0 w payload);
    }) place_is)))
    (written_kept p id key payload keeps may flushing beside.0 turn.0 w turn.1.1.held turn.1.1.writer q.state.files turn.1.3)
keeps_write p q id key payload (Err log_faults.Memory) keeps may flushing turn beside =
    subst StoreInvariant (sym (beside.1 ∙ ap (λ (s : State). record p { state = s; accounts = q.accounts }) turn.1)) (elim beside.0 [
      | inl same ↦ subst (λ a. StoreInvariant (record p { state = record p.state { files = q.state.files }; accounts = a })) (sym same)
          (keeps_failures p q.state.files p.state.failures keeps turn.0)
      | inr room ↦ subst (λ a. StoreInvariant (record p { state = record p.state { files = q.state.files }; accounts = a })) (sym room)
          (keeps_failures (record p { accounts = after_ready p.accounts id key.ledger }) q.state.files p.state.failures
          (keeps_ready p id key.ledger keeps) turn.0)
    ])
keeps_write p q id key payload (Err log_faults.Disk) keeps may flushing turn beside =
    subst StoreInvariant (sym (beside.1 ∙ ap (λ (s : State). record p { state = s; accounts = after_ready p.accounts id key.ledger; writing = None }) turn.3))
    (failed_kept (record p { accounts = after_ready p.accounts id key.ledger }) id key payload (keeps_ready p id key.ledger keeps) may flushing beside.0
    turn.0 turn.1 q.state.files (p.state.failures + 1) turn.2)
keeps_write p q id key payload (Err log_faults.Odd) keeps may flushing turn beside =
    subst StoreInvariant (sym (beside.1 ∙ ap (λ (s : State). record p { state = s; accounts = after_ready p.accounts id key.ledger; writing = None }) turn.1.2))
    (failed_kept (record p { accounts = after_ready p.accounts id key.ledger }) id key payload (keeps_ready p id key.ledger keeps) may flushing beside.0
    turn.1.0 turn.1.1 q.state.files p.state.failures (λ honest. absurd (let wrong = turn.0 in cc)))
keeps_write p q id key payload (Err log_faults.Failed) keeps may flushing never beside = absurd never
