-- A log that is sealed preserves the store invariant.
use Rattle.std.proofs.Common.{◌≡◌, ◌⊎◌, inl, inr, ℕ, ◌+◌, true, false, IsTrue, List, Some, take, Result, refl, sym, ap, subst, ◌∙◌}
use Rattle.std.specs.FinMap as finite
use Rattle.std.specs.FinSet as set
use Rattle.bk_record.specs.Key.{EntryKey}
use Rattle.bk_record.specs.Location.{Place}
use Rattle.bk_record.specs.Record.{key_of}
use Rattle.bk_record.specs.Files.{Files, file_of, In}
use Rattle.bk_record.specs.Scan.{entries_of}
use Rattle.bk_record.specs.Longer.{IsLonger}
use Rattle.bk_record.specs.Keyed.{log_count}
use Rattle.bk_log.specs.Writing as writers
use Rattle.bk_log.specs.Growing.{Gains}
use Rattle.bk_log.specs.declared.fault.LogFault.{LogFault}
use Rattle.bk_accounts.specs.Sums.{AreSums}
use Rattle.bk_store.specs.Published.{IndexIsPublished}
use Rattle.bk_store.specs.Logs.{Log, IsFlushLog, is_open, is_written, unwritten_log}
use Rattle.bk_store.specs.State.{State, StoreParts}
use Rattle.bk_store.specs.Invariant.{StoreInvariant, StructuralInvariant, ContentInvariant, entry_measure}
use Rattle.bk_store.specs.Primitives.{IsIdle, CanSealLog, SealLogTransition, failed_in}
use Rattle.bk_store.specs.Internals.{SealLogInternals, unless_log}
use Rattle.bk_store.specs.declared.log.LogState.{LogState}
use Rattle.bk_store.specs.declared.log.LogState.TheVariants.{Writing, Filled, Copying, Readable, Retired, Closed}
use Rattle.bk_store.proofs.InvariantParts.{none_placed}
use Rattle.bk_store.proofs.PublishedMoves.{shows_grown}
use Rattle.bk_store.proofs.OneLog.{IsFlushed, views_stay, flush_logs_stay, entries_stay}
use Rattle.bk_store.proofs.Acknowledged.{entries_acknowledged, entries_whole}
use Rattle.bk_store.proofs.Closing.{held_closed, writing_closed, none_keyed, parts_same}
use Rattle.bk_store.proofs.InvariantSetState.{not_flushed, one_log}
use Rattle.bk_store.proofs.Seats.{slot_state-same}
use Rattle.bk_store.proofs.InvariantOneLog.{with_one, fits_one, promises_one, job_in}
use Rattle.bk_store.proofs.JobStays.{job_unflushed}

-- the entries that are acknowledged of a log stay as it grows
pub acknowledged_stay : (files files' : Files) (id : ℕ) (w : writers.Writing) (n : ℕ) → writers.Writes files w → w.log ≡ id → n ≡ w.end
    → IsLonger (file_of files id) (file_of files' id) → entries_of (take n (file_of files' id)) ≡ entries_of (take n (file_of files id))
acknowledged_stay files files' id w n writes own long longer =
    let here : IsLonger (file_of files w.log) (file_of files' w.log) = subst (λ q. IsLonger (file_of files q) (file_of files' q)) (sym own) longer in
    (λ i. entries_of (take (long i) (file_of files' (sym own i)))) ∙ entries_acknowledged files w writes (file_of files' w.log) here
    ∙ sym (entries_whole files w writes) ∙ (λ i. entries_of (take (sym long i) (file_of files (own i))))

module _ (p : StoreParts) (keeps : StoreInvariant p) (id : ℕ) (state : LogState) (log : Log) (held : finite.get p.state.logs id ≡ Some log) (w : writers.Writing)
    (writer : log.writer ≡ Some w) (closed : is_written state ≡ false) (opened : is_open state ≡ true) (was_open : is_open log.state ≡ true)
    (files : Files) (failures : ℕ) where
  abbrev new : Log
  new = unwritten_log state log

  unwritten : ¬ (state ≡ Writing)
  unwritten wrong = absurd (let both : true ≡ false = sym (ap is_written wrong) ∙ closed in cc)

  -- the log is closed, and the file has gained foreign records, or those of the map
  pub closed_promise : (reveal_invariant : ContentInvariant p) → (others : List (ℕ × List ℕ)) → Gains p.state.files id others files
      → ((at : ℕ) (payload : List ℕ) (key : EntryKey) → In (at, payload) others → key_of payload ≡ Some key → set.contains p.state.ledgers.dead key.ledger ≡ false
      → finite.get reveal_invariant.map.carried key ≡ Some payload)
      → ContentInvariant (with_one p id new files failures p.accounts (unless_log p.writing id))
  closed_promise reveal_invariant others gains each =
      let old = reveal_invariant.logs.each id log held in
      let by = (keeps.fits.logs.each id log held).by w writer in
      let same = entries_stay p.state.logs id log new held p.state.files files gains.only
      (acknowledged_stay p.state.files files id w log.acknowledged (old.writes w writer) by.own by.long gains.longer) in
      promises_one p id log new held files failures p.accounts (unless_log p.writing id) keeps.fits reveal_invariant others gains each
      (λ stood. subst (λ ps. IndexIsPublished (file_of files) ps p.state.index)
      (λ i q. sym (parts_same p.state.logs id log new held (opened ∙ sym was_open) refl q) i)
      (shows_grown reveal_invariant.shows (file_of files) stood))
      (record {
        stands = gains.stands old.stands;
        writes = λ v wrong. absurd (cc);
        honest = old.honest;
        spelled = gains.spelled old.spelled;
        shown = old.shown;
        kept = λ view seen _. old.kept view seen was_open;
      })
      (subst (λ f. AreSums entry_measure (set.contains p.state.ledgers.dead) f (log_count p.state.index) p.accounts) (λ i q. sym (same q) i) reveal_invariant.counted)

  pub closed_fits : ((key : EntryKey) (place : Place) → finite.get p.state.places key ≡ Some place → IsFlushLog (finite.insert p.state.logs id new) place.log)
      → (IsFlushed new → In id p.filled) → StructuralInvariant (with_one p id new files failures p.accounts (unless_log p.writing id))
  closed_fits flushed listed =
      let fits = keeps.fits in
      fits_one p id log new held files failures p.accounts (unless_log p.writing id) fits refl (slot_state-same id state log.state opened was_open)
      (held_closed p.state.next id state log closed (fits.logs.each id log held))
      (λ key place is. views_stay p.state.logs id log new held (λ v _ view_is. (opened, (v, view_is))) place.log (fits.sent key place is))
      flushed (writing_closed p.state.logs id new p.writing unwritten fits.logs.writing) listed (λ now. absurd (unwritten now)) (λ q. refl)
      (fits.accounts.total id log held) (λ q _. refl)

module _ (p : StoreParts) (keeps : StoreInvariant p) (id : ℕ) (log : Log) (held : finite.get p.state.logs id ≡ Some log) where
  -- the Writing log is Filled, and its places stay in it
  pub filled_flush : log.state ≡ Writing → (key : EntryKey) (place : Place) → finite.get p.state.places key ≡ Some place
      → IsFlushLog (finite.insert p.state.logs id (unwritten_log Filled log)) place.log
  filled_flush was key place is =
      flush_logs_stay p.state.logs id log (unwritten_log Filled log) held (λ _. inr refl) place.log (keeps.fits.placed.logs key place is)

  -- no place is in a copy
  pub copy_flush : log.state ≡ Copying → (key : EntryKey) (place : Place) → finite.get p.state.places key ≡ Some place
      → IsFlushLog (finite.insert p.state.logs id (unwritten_log Readable log)) place.log
  copy_flush was key place is =
      flush_logs_stay p.state.logs id log (unwritten_log Readable log) held (λ f. absurd (not_flushed log (inl was) f)) place.log
      (keeps.fits.placed.logs key place is)

pub readable_unflushed : ¬ ((Readable ≡ Writing) ⊎ (Readable ≡ Filled))
readable_unflushed (inl wrong) = cc
readable_unflushed (inr wrong) = cc

module _ (p q : StoreParts) (id : ℕ) (state : LogState) (result : Result (Unit {0}) LogFault) (keeps : StoreInvariant p) (turn : SealLogTransition p.state id state result q.state)
    (closed : is_written state ≡ false) (opened : is_open state ≡ true) (was_open : is_open turn.log.state ≡ true) (beside : SealLogInternals p id q) where
  sealed_kept : IsIdle p.state id
      → StructuralInvariant (with_one p id (unwritten_log state turn.log) q.state.files (p.state.failures + failed_in result) p.accounts (unless_log p.writing id)) → StoreInvariant q
  sealed_kept idle fits =
      let log = turn.log in
      let by = (keeps.fits.logs.each id log turn.writer.held).by turn.w turn.writer.writer in
      let gained = λ (honest : IsTrue p.state.honest).
      subst (λ n. Gains p.state.files n (turn.sealed honest).gains.others q.state.files) by.own (turn.sealed honest).gains.gains in
      subst StoreInvariant (sym (beside ∙ ap (λ (s : State). record p { state = s; writing = unless_log p.writing id }) turn.left)) (record {
        fits = fits;
        job = job_in p.state.keeper p id (unwritten_log state log) q.state.files (p.state.failures + failed_in result) p.accounts (unless_log p.writing id)
            keeps idle (λ honest. (gained honest).only);
        fronts = keeps.fronts;
        promises = λ honest.
            let reveal_invariant = keeps.promises honest in
            let sealed = turn.sealed honest in
            closed_promise p keeps id state log turn.writer.held turn.w turn.writer.writer closed opened was_open q.state.files
            (p.state.failures + failed_in result) reveal_invariant sealed.gains.others (gained honest)
            (λ at payload key there keyed _. absurd (none_keyed sealed.gains.others sealed.gains.foreign at payload key there keyed));
      })

pub keeps_seal : (p q : StoreParts) (id : ℕ) (state : LogState) (result : Result (Unit {0}) LogFault) → StoreInvariant p → CanSealLog p.state id state
    → SealLogTransition p.state id state result q.state → SealLogInternals p id q → StoreInvariant q
keeps_seal p q id Filled result keeps may turn beside =
    let log = turn.log in
    let was = one_log p id log Writing turn.writer.held may in
    let opened : is_open log.state ≡ true = ap is_open was in
    sealed_kept p q id Filled result keeps turn refl refl opened beside
    (λ job is. job_unflushed p.state job (keeps.job job is) id log turn.writer.held (inl was))
    (closed_fits p keeps id Filled log turn.writer.held turn.w turn.writer.writer refl refl opened q.state.files (p.state.failures + failed_in result)
    (filled_flush p keeps id log turn.writer.held was) (λ _. keeps.fits.logs.filled id log turn.writer.held (inl was)))
keeps_seal p q id Readable result keeps (inl copy) turn beside =
    let log = turn.log in
    let was = one_log p id log Copying turn.writer.held copy.0 in
    let opened : is_open log.state ≡ true = ap is_open was in
    sealed_kept p q id Readable result keeps turn refl refl opened beside copy.1
    (closed_fits p keeps id Readable log turn.writer.held turn.w turn.writer.writer refl refl opened q.state.files (p.state.failures + failed_in result)
    (copy_flush p keeps id log turn.writer.held was) (λ wrong. absurd (readable_unflushed wrong)))
keeps_seal p q id Readable result keeps (inr idle) turn beside =
    let log = turn.log in
    let was = one_log p id log Writing turn.writer.held idle.0 in
    let opened : is_open log.state ≡ true = ap is_open was in
    sealed_kept p q id Readable result keeps turn refl refl opened beside
    (λ job is. job_unflushed p.state job (keeps.job job is) id log turn.writer.held (inl was))
    (closed_fits p keeps id Readable log turn.writer.held turn.w turn.writer.writer refl refl opened q.state.files (p.state.failures + failed_in result)
    (λ key place is. absurd (none_placed p.state.places key place (keeps.fits.placed.idle idle.1) is)) (λ wrong. absurd (readable_unflushed wrong)))
keeps_seal p q id Writing result keeps never turn beside = absurd never
keeps_seal p q id Copying result keeps never turn beside = absurd never
keeps_seal p q id Retired result keeps never turn beside = absurd never
keeps_seal p q id Closed result keeps never turn beside = absurd never
