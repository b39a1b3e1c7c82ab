-- An entry that is put in a target log preserves the store invariant.
use Rattle.std.proofs.Common.{◌≡◌, inl, inr, ℕ, ◌+◌, true, false, cond, eqb, IsTrue, List, [], length, take}
use Rattle.std.proofs.Common.{Option, Some, None, Result, Ok, Err, refl, sym, ap, subst, ◌∙◌}
use Rattle.std.specs.FinMap as finite
use Rattle.std.proofs.lemmas.Bool.{eqb-true}
use Rattle.bk_record.specs.Key.{EntryKey}
use Rattle.bk_record.specs.Location.{Place}
use Rattle.bk_record.specs.Record.{record_of}
use Rattle.bk_record.specs.Files.{Files}
use Rattle.bk_disk.specs.Disk.{files_after_append}
use Rattle.bk_log.specs.Writing as writers
use Rattle.bk_log.specs.Growing.{Gains, PutGains, put_record}
use Rattle.bk_log.specs.declared.fault.LogFault.{LogFault}
use Rattle.bk_log.specs.declared.fault.LogFault.TheVariants as log_faults
use Rattle.bk_log.proofs.Gains.{put_gains}
use Rattle.bk_accounts.specs.Book.{Book, after_ready, after_count}
use Rattle.bk_store.specs.Logs.{Log, is_open, unwritten_log, state_after_failed_append, log_after_failed_append}
use Rattle.bk_store.specs.State.{State, StoreParts}
use Rattle.bk_store.specs.Invariant.{StoreInvariant, ContentInvariant}
use Rattle.bk_store.specs.Appending.{grown_log}
use Rattle.bk_store.specs.Primitives.{CanTake, AppendRecordTransition}
use Rattle.bk_store.specs.CompactionPrimitives.{CanAppendCopied}
use Rattle.bk_store.specs.Internals.{AppendCopiedInternals, IsReadied, unless_log}
use Rattle.bk_store.specs.declared.log.LogState.TheVariants.{Writing, Copying, Readable}
use Rattle.bk_store.proofs.OneEntry.{one_payload}
use Rattle.bk_store.proofs.InvariantSetState.{one_log}
use Rattle.bk_store.proofs.InvariantSeal.{closed_promise, closed_fits, copy_flush, readable_unflushed}
use Rattle.bk_store.proofs.InvariantOneLog.{with_one, job_in, keeps_failures}
use Rattle.bk_store.proofs.InvariantAppendFlushed.{put_fits, put_gained, put_promises}
use Rattle.bk_store.proofs.InvariantNotePlace.{keeps_ready, put_mapped}

-- what the index points to has what the map has
pub named_mapped : (p : StoreParts) (reveal_invariant : ContentInvariant p) (id : ℕ) (key : EntryKey) (place : Place) (payload : List ℕ) → CanAppendCopied p.state id key place payload
    → IsTrue p.state.honest → finite.get reveal_invariant.map.carried key ≡ Some payload
named_mapped p reveal_invariant id key place payload may honest =
    let named = reveal_invariant.map.carries.indexed key place may.sent in
    let same = one_payload named.stands (may.stands honest) in
    named.mapped ∙ ap (λ (b : List ℕ). Some b) same

-- a target log is not the Writing log
unwritten_copy : (p : StoreParts) → StoreInvariant p → (id : ℕ) (log : Log) → finite.get p.state.logs id ≡ Some log → log.state ≡ Copying
    → unless_log p.writing id ≡ p.writing
unwritten_copy p keeps id log held was = of p.writing refl
  where
    of : (o : Option ℕ) → p.writing ≡ o → unless_log o id ≡ o
    of None is = refl
    of (Some q) is = elim (eqb q id) as (λ b. eqb q id ≡ b → cond b None (Some q) ≡ Some q) [
      | false ↦ λ _. refl
      | true ↦ λ tied.
          let found = (keeps.fits.logs.writing q).0 is in
          let there : Some found.0 ≡ Some log = sym found.1 ∙ ap (finite.get p.state.logs) (eqb-true q id tied) ∙ held in
          absurd (let same : found.0 ≡ log = cc in let both : Writing ≡ Copying = sym found.2 ∙ ap (λ (l : Log). l.state) same ∙ was in cc)
    ] refl

module _ (p : StoreParts) (id : ℕ) (key : EntryKey) (place : Place) (payload : List ℕ) (keeps : StoreInvariant p) (may : CanAppendCopied p.state id key place payload)
    (log : Log) (held : finite.get p.state.logs id ≡ Some log) where
  was : log.state ≡ Copying
  was = one_log p id log Copying held (record { log = may.takes.log; held = may.takes.writer.held; state_is = may.takes.state_is })

  put_kept : (w : writers.Writing) → log.writer ≡ Some w → (files : Files) → (IsTrue p.state.honest → files ≡ files_after_append p.state.files id (record_of payload))
      → StoreInvariant (with_one p id (grown_log log w payload) files p.state.failures
      (after_count (after_ready p.accounts id key.ledger) id key.ledger (4 + length payload)) p.writing)
  put_kept w writer files grew = record {
    fits = put_fits p keeps id log held w writer key payload may.sized may.keyed files;
    job = job_in p.state.keeper p id (grown_log log w payload) files p.state.failures
        (after_count (after_ready p.accounts id key.ledger) id key.ledger (4 + length payload)) p.writing keeps may.idle
        (λ honest.
        let reveal_invariant = keeps.promises honest in
        (put_gained p keeps id log held w writer key payload may.sized may.keyed files reveal_invariant (named_mapped p reveal_invariant id key place payload may honest)
        (grew honest)).only);
    fronts = keeps.fronts;
    promises = λ honest.
        let reveal_invariant = keeps.promises honest in
        put_promises p keeps id log held w writer key payload may.sized may.keyed files reveal_invariant
        (named_mapped p reveal_invariant id key place payload may honest) (grew honest);
  }

  module _ (files : Files) (failures : ℕ) (part : IsTrue p.state.honest → (n : ℕ) × (files ≡ files_after_append p.state.files id (take n (record_of payload)))) where
    takes : CanTake p.state id Copying payload
    takes = may.takes

    writer : log.writer ≡ Some takes.w
    writer =
        let both : Some takes.log ≡ Some log = sym takes.writer.held ∙ held in
        let one : takes.log ≡ log = cc in
        ap (λ (l : Log). l.writer) (sym one) ∙ takes.writer.writer

    own : takes.w.log ≡ id
    own = ((keeps.fits.logs.each id log held).by takes.w writer).own

    gained : IsTrue p.state.honest → PutGains p.state.files takes.w payload (Err log_faults.Disk) files
    gained honest =
        let writes = ((keeps.promises honest).logs.each id log held).writes takes.w writer in
        let grew = part honest in
        put_gains p.state.files files takes.w payload (Err log_faults.Disk) writes may.sized
        (grew.0, grew.1 ∙ ap (λ n. files_after_append p.state.files n (take grew.0 (record_of payload))) (sym own))

    own_gains : (others : List (ℕ × List ℕ)) → Gains p.state.files takes.w.log others files → Gains p.state.files id others files
    own_gains others gains = subst (λ n. Gains p.state.files n others files) own gains

    -- a put that failed leaves the target log Readable
    halted_kept : StoreInvariant (with_one p id (log_after_failed_append log) files failures p.accounts p.writing)
    halted_kept =
        let opened : is_open log.state ≡ true = ap is_open was in
        let state : unwritten_log Readable log ≡ log_after_failed_append log = ap (λ s. unwritten_log (state_after_failed_append s) log) (sym was) in
        subst (λ l. StoreInvariant (with_one p id l files failures p.accounts p.writing)) state
        (subst (λ o. StoreInvariant (with_one p id (unwritten_log Readable log) files failures p.accounts o)) (unwritten_copy p keeps id log held was) (record {
          fits = closed_fits p keeps id Readable log held takes.w writer refl refl opened files failures (copy_flush p keeps id log held was)
              (λ wrong. absurd (readable_unflushed wrong));
          job = job_in p.state.keeper p id (unwritten_log Readable log) files failures p.accounts (unless_log p.writing id) keeps may.idle
              (λ honest. elim (gained honest) [ inl all ↦ (own_gains (put_record takes.w payload) all).only | inr none ↦ (own_gains [] none).only ]);
          fronts = keeps.fronts;
          promises = λ honest.
              let reveal_invariant = keeps.promises honest in
              let mapped = named_mapped p reveal_invariant id key place payload may honest in
              elim (gained honest) [
                | inl all ↦ closed_promise p keeps id Readable log held takes.w writer refl refl opened files failures reveal_invariant (put_record takes.w payload)
                    (own_gains (put_record takes.w payload) all)
                    (λ at b k there is_key _. put_mapped reveal_invariant.map.carried takes.w key payload may.keyed mapped at b k there is_key)
                | inr none ↦ closed_promise p keeps id Readable log held takes.w writer refl refl opened files failures reveal_invariant []
                    (own_gains [] none) (λ at b k never. absurd never)
              ];
        }))

-- room in an account changes nothing of what is asked
refused_kept : (p q : StoreParts) (id ledger : ℕ) → StoreInvariant p → IsReadied p.accounts id ledger q.accounts
    → ((a : Book) → StoreInvariant (record p { accounts = a }) → StoreInvariant (record p { state = q.state; accounts = a }))
    → q ≡ record p { state = q.state; accounts = q.accounts } → StoreInvariant q
refused_kept p q id ledger keeps (inl same) goes beside =
    subst StoreInvariant (sym (beside ∙ ap (λ (a : Book). record p { state = q.state; accounts = a }) same)) (goes p.accounts keeps)
refused_kept p q id ledger keeps (inr room) goes beside =
    subst StoreInvariant (sym (beside ∙ ap (λ (a : Book). record p { state = q.state; accounts = a }) room))
    (goes (after_ready p.accounts id ledger) (keeps_ready p id ledger keeps))

pub keeps_copy : (p q : StoreParts) (id : ℕ) (key : EntryKey) (place : Place) (payload : List ℕ) (result : Result Place LogFault) → StoreInvariant p
    → CanAppendCopied p.state id key place payload → AppendRecordTransition p.state id payload result q.state → AppendCopiedInternals p id key payload result q → StoreInvariant q
keeps_copy p q id key place payload (Ok at) keeps may turn beside =
    let w = turn.1.0 in
    subst StoreInvariant (sym (beside ∙ ap (λ (s : State). record p {
      state = s;
      accounts = after_count (after_ready p.accounts id key.ledger) id key.ledger (4 + length payload);
    }) turn.1.4))
    (put_kept p id key place payload keeps may turn.0 turn.1.1.held w turn.1.1.writer q.state.files turn.1.3)
keeps_copy p q id key place payload (Err log_faults.Memory) keeps may turn beside =
    refused_kept p q id key.ledger keeps beside.0
    (λ a kept. subst (λ (s : State). StoreInvariant (record p { state = s; accounts = a })) (sym turn.1)
    (keeps_failures (record p { accounts = a }) q.state.files p.state.failures kept turn.0)) beside.1
keeps_copy p q id key place payload (Err log_faults.Disk) keeps may turn beside =
    refused_kept p q id key.ledger keeps beside.0
    (λ a kept. subst (λ (s : State). StoreInvariant (record p { state = s; accounts = a })) (sym turn.3)
    (halted_kept (record p { accounts = a }) id key place payload kept may turn.0 turn.1 q.state.files (p.state.failures + 1) turn.2)) beside.1
keeps_copy p q id key place payload (Err log_faults.Odd) keeps may turn beside =
    refused_kept p q id key.ledger keeps beside.0
    (λ a kept. subst (λ (s : State). StoreInvariant (record p { state = s; accounts = a })) (sym turn.1.2)
    (halted_kept (record p { accounts = a }) id key place payload kept may turn.1.0 turn.1.1 q.state.files p.state.failures
    (λ honest. absurd (let wrong = turn.0 in cc)))) beside.1
keeps_copy p q id key place payload (Err log_faults.Failed) keeps may never beside = absurd never
