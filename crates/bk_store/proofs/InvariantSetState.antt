-- A log that comes into another state, in which it is not written, preserves the store invariant.
use Rattle.std.proofs.Common.{◌≡◌, ◌⊎◌, inl, inr, ℕ, true, false, [], Some, Result, Ok, Err, refl, sym, ap, subst, ◌∙◌}
use Rattle.std.specs.FinMap as finite
use Rattle.std.specs.FinSet as set
use Rattle.bk_record.specs.Key.{EntryKey}
use Rattle.bk_record.specs.Location.{Place}
use Rattle.bk_record.specs.Files.{file_of}
use Rattle.bk_record.specs.Keyed.{log_count}
use Rattle.bk_record.proofs.KeyedCounts.{log_count-zero}
use Rattle.bk_log.proofs.Gains.{gains_same}
use Rattle.bk_accounts.specs.Sums.{AreSums}
use Rattle.bk_store.specs.Published.{IndexIsPublished}
use Rattle.bk_lease.specs.declared.slot.Slot.TheVariants as slots
use Rattle.bk_lease.specs.Values.{SlotTable, with_state as with_slot}
use Rattle.bk_store.specs.SlotAssignment.{IsSeated, slot_state}
use Rattle.bk_store.specs.Logs.{Log, HasOpenView, is_open, is_written, unwritten_log, open_parts}
use Rattle.bk_store.specs.State.{StoreParts}
use Rattle.bk_store.specs.Invariant.{StoreInvariant, entry_measure}
use Rattle.bk_store.specs.Primitives.{CanSetLogState, SetLogStateTransition, IsIn, IsIdle}
use Rattle.bk_store.specs.Leasing.{CloseLogTransition}
use Rattle.bk_lease.specs.declared.answers.Leased.{Leased}
use Rattle.bk_store.specs.declared.log.LogState.{LogState}
use Rattle.bk_store.specs.declared.log.LogState.TheVariants.{Writing, Filled, Copying, Readable, Retired, Closed}
use Rattle.bk_store.proofs.InvariantParts.{with_state, keeps_same}
use Rattle.bk_store.proofs.PublishedMoves.{shows_hidden}
use Rattle.bk_store.proofs.OneLog.{IsFlushed, views_stay, views_else, flush_logs_stay, writing_same, parts_else, parts_here, entries_stay}
use Rattle.bk_store.proofs.Closing.{held_closed, parts_same}
use Rattle.bk_store.proofs.InvariantOneLog.{with_one, with_one_in, fits_in, promises_in, job_in}
use Rattle.bk_store.proofs.JobStays.{job_apart}
use Rattle.bk_store.proofs.Seats.{seated_one, seated_closed}

-- a log in this state is not one that a flush wrote
pub not_flushed : (log : Log) → (log.state ≡ Copying) ⊎ ((log.state ≡ Readable) ⊎ (log.state ≡ Retired)) → ¬ (IsFlushed log)
not_flushed log (inl is) (inl wrong) = cc
not_flushed log (inl is) (inr wrong) = cc
not_flushed log (inr (inl is)) (inl wrong) = cc
not_flushed log (inr (inl is)) (inr wrong) = cc
not_flushed log (inr (inr is)) (inl wrong) = cc
not_flushed log (inr (inr is)) (inr wrong) = cc

module _ (p : StoreParts) (keeps : StoreInvariant p) (id : ℕ) (state : LogState) (log : Log) (held : finite.get p.state.logs id ≡ Some log) (idle : IsIdle p.state id)
    (other : ¬ (IsFlushed log)) (closed : is_written state ≡ false) (unflushed : ¬ ((state ≡ Writing) ⊎ (state ≡ Filled)))
    (keeper : SlotTable) (seated : IsSeated p.state.settings keeper (finite.insert p.state.logs id (unwritten_log state log))) where
  keeps_closed : (is_open state ≡ true → is_open log.state ≡ true) → ((key : EntryKey) (place : Place) → finite.get p.state.index key ≡ Some place
      → HasOpenView (finite.insert p.state.logs id (unwritten_log state log)) place.log)
      → (IndexIsPublished (file_of p.state.files) (open_parts p.state.logs) p.state.index
      → IndexIsPublished (file_of p.state.files) (open_parts (finite.insert p.state.logs id (unwritten_log state log))) p.state.index)
      → StoreInvariant (with_one_in keeper p id (unwritten_log state log) p.state.files p.state.failures p.accounts p.writing)
  keeps_closed was_open sent shows =
      let fits = keeps.fits in
      let files = p.state.files in
      let new = unwritten_log state log in
      record {
        fits = fits_in p id log new held files p.state.failures p.accounts p.writing keeper seated fits
            (held_closed p.state.next id state log closed (fits.logs.each id log held)) sent
            (λ key place is. flush_logs_stay p.state.logs id log new held (λ f. absurd (other f)) place.log (fits.placed.logs key place is))
            (writing_same p.state.logs id log new held (λ wrong. absurd (other (inl wrong))) (λ wrong. absurd (unflushed (inl wrong))) p.writing fits.logs.writing)
            (λ wrong. absurd (unflushed wrong)) (λ wrong. absurd (unflushed (inl wrong))) (λ q. refl) (fits.accounts.total id log held) (λ q _. refl);
        job = job_in keeper p id new files p.state.failures p.accounts p.writing keeps idle (λ _ q apart. refl);
        fronts = keeps.fronts;
        promises = λ honest.
            let reveal_invariant = keeps.promises honest in
            let old = reveal_invariant.logs.each id log held in
            let same = entries_stay p.state.logs id log new held files files (λ _ _. refl) refl in
            promises_in p id log new held files p.state.failures p.accounts p.writing keeper fits reveal_invariant [] (gains_same files files id refl)
            (λ at payload key never. absurd never) (λ _. shows reveal_invariant.shows)
            (record {
              stands = old.stands;
              writes = λ w wrong. absurd (cc);
              honest = old.honest;
              spelled = old.spelled;
              shown = old.shown;
              kept = λ view seen opened. old.kept view seen (was_open opened);
            })
            (subst (λ f. AreSums entry_measure (set.contains p.state.ledgers.dead) f (log_count p.state.index) p.accounts) (λ i q. sym (same q) i) reveal_invariant.counted);
      }

pub one_log : (p : StoreParts) (id : ℕ) (log : Log) (state : LogState) → finite.get p.state.logs id ≡ Some log → IsIn p.state id state → log.state ≡ state
one_log p id log state held known =
    let both : Some log ≡ Some known.log = sym held ∙ known.held in
    let one : log ≡ known.log = cc in
    ap (λ (l : Log). l.state) one ∙ known.state_is

module _ (p : StoreParts) (keeps : StoreInvariant p) (id : ℕ) (log : Log) (held : finite.get p.state.logs id ≡ Some log) where
  still_seated : (state : LogState) → slot_state id state ≡ slot_state id log.state
      → IsSeated p.state.settings p.state.keeper (finite.insert p.state.logs id (unwritten_log state log))
  still_seated state same = seated_one p.state.settings p.state.keeper p.state.logs keeps.fits.logs.seated id log (unwritten_log state log) held refl same

  readable_kept : log.state ≡ Copying → IsIdle p.state id → StoreInvariant (with_one p id (unwritten_log Readable log) p.state.files p.state.failures p.accounts p.writing)
  readable_kept was idle =
      let new = unwritten_log Readable log in
      let opened : is_open new.state ≡ is_open log.state = sym (ap is_open was) in
      keeps_closed p keeps id Readable log held idle (not_flushed log (inl was)) refl (λ wrong. elim wrong [ inl w ↦ cc | inr w ↦ cc ])
      p.state.keeper (still_seated Readable (sym (ap (slot_state id) was))) (λ _. ap is_open was)
      (λ key place is. views_stay p.state.logs id log new held (λ v _ view_is. (refl, (v, view_is))) place.log (keeps.fits.sent key place is))
      (λ shows. subst (λ ps. IndexIsPublished (file_of p.state.files) ps p.state.index) (λ i q. sym (parts_same p.state.logs id log new held opened refl q) i) shows)

  retired_kept : log.state ≡ Readable → log_count p.state.index id ≡ 0 → IsIdle p.state id
      → StoreInvariant (with_one p id (unwritten_log Retired log) p.state.files p.state.failures p.accounts p.writing)
  retired_kept was none idle =
      let new = unwritten_log Retired log in
      let unnamed = log_count-zero p.state.index id none in
      keeps_closed p keeps id Retired log held idle (not_flushed log (inr (inl was))) refl (λ wrong. elim wrong [ inl w ↦ cc | inr w ↦ cc ])
      p.state.keeper (still_seated Retired (sym (ap (slot_state id) was))) (λ wrong. absurd (cc))
      (λ key place is. views_else p.state.logs id log new held place.log (unnamed key place is) (keeps.fits.sent key place is))
      (λ shows. shows_hidden shows (open_parts (finite.insert p.state.logs id new)) id (parts_else p.state.logs id log new held)
      (parts_here p.state.logs id log new held) unnamed)

  -- the log is closed, and its slot with it
  pub closed_kept : log.state ≡ Retired
      → StoreInvariant (with_one_in (with_slot p.state.keeper log.slot (slots.Closed id)) p id
      (unwritten_log Closed log) p.state.files p.state.failures p.accounts p.writing)
  closed_kept was =
      let new = unwritten_log Closed log in
      let hidden : is_open new.state ≡ is_open log.state = sym (ap is_open was) in
      let idle : IsIdle p.state id = λ job is. job_apart p.state job (keeps.job job is) id log held (λ wrong. cc) (λ wrong. cc) in
      keeps_closed p keeps id Closed log held idle (not_flushed log (inr (inr was))) refl (λ wrong. elim wrong [ inl w ↦ cc | inr w ↦ cc ])
      (with_slot p.state.keeper log.slot (slots.Closed id)) (seated_closed p.state.settings p.state.keeper p.state.logs keeps.fits.logs.seated id log held) (λ wrong. absurd (cc))
      (λ key place is. views_stay p.state.logs id log new held (λ v wrong _. absurd (let both : true ≡ false = sym wrong ∙ ap is_open was in cc))
      place.log (keeps.fits.sent key place is))
      (λ shows. subst (λ ps. IndexIsPublished (file_of p.state.files) ps p.state.index) (λ i q. sym (parts_same p.state.logs id log new held hidden refl q) i) shows)

pub keeps_set : (p q : StoreParts) (id : ℕ) (state : LogState) → StoreInvariant p → CanSetLogState p.state id state → SetLogStateTransition p.state id state q.state
    → q ≡ with_state p q.state → StoreInvariant q
keeps_set p q id Readable keeps may turn beside =
    subst StoreInvariant (sym (beside ∙ ap (with_state p) turn.2)) (readable_kept p keeps id turn.0 turn.1 (one_log p id turn.0 Copying turn.1 may.0) may.1)
keeps_set p q id Retired keeps may turn beside =
    subst StoreInvariant (sym (beside ∙ ap (with_state p) turn.2)) (retired_kept p keeps id turn.0 turn.1 (one_log p id turn.0 Readable turn.1 may.0) may.1 may.2)
keeps_set p q id Closed keeps never turn beside = absurd never
keeps_set p q id Writing keeps never turn beside = absurd never
keeps_set p q id Filled keeps never turn beside = absurd never
keeps_set p q id Copying keeps never turn beside = absurd never

-- ---- a log is closed to leases

pub keeps_close : (p q : StoreParts) (id : ℕ) (result : Result (Unit {0}) Leased) → StoreInvariant p → IsIn p.state id Retired → CloseLogTransition p.state id result q.state
    → q ≡ with_state p q.state → StoreInvariant q
keeps_close p q id (Ok _) keeps known turn beside =
    subst StoreInvariant (sym (beside ∙ ap (with_state p) turn.1.2)) (closed_kept p keeps id turn.1.0 turn.1.1 (one_log p id turn.1.0 Retired turn.1.1 known))
keeps_close p q id (Err leased) keeps known turn beside = keeps_same p q keeps beside turn.1
