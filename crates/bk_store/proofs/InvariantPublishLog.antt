-- A log that is published preserves the store invariant.
use Rattle.std.proofs.Common.{◌≡◌, ℕ, ◌+◌, true, cond, IsTrue, List, [], Option, Some, Result, Ok, Err, refl, sym, ap, subst, ◌∙◌, unwrap_or}
use Rattle.std.specs.Result.{OnOk}
use Rattle.std.specs.FinMap as finite
use Rattle.std.specs.FinSet as set
use Rattle.bk_record.specs.Files.{file_of}
use Rattle.bk_record.specs.Keyed.{log_count}
use Rattle.bk_disk.specs.Durable.{IsDurable}
use Rattle.bk_log.specs.Growing.{HasNoBadLength}
use Rattle.bk_log.proofs.Gains.{gains_same}
use Rattle.bk_log.specs.declared.fault.LogFault.{LogFault}
use Rattle.bk_log.specs.declared.fault.LogFault.TheVariants as log_faults
use Rattle.bk_accounts.specs.Sums.{AreSums}
use Rattle.bk_store.specs.Logs.{View, Log, is_open, open_parts, with_view}
use Rattle.bk_store.specs.State.{StoreParts}
use Rattle.bk_store.specs.Invariant.{StoreInvariant, ContentInvariant, entry_measure}
use Rattle.bk_store.specs.Primitives.{IsIdle, CanPublishLog, PublishLogTransition}
use Rattle.bk_store.proofs.InvariantParts.{with_state}
use Rattle.bk_store.proofs.PublishedMoves.{shows_all_of_one}
use Rattle.bk_store.proofs.OneLog.{views_stay, flush_logs_stay, writing_same, parts_else, parts_here, entries_stay}
use Rattle.bk_store.proofs.InvariantOneLog.{with_one, fits_one, promises_one, job_in, keeps_failures}

module _ (p : StoreParts) (keeps : StoreInvariant p) (id : ℕ) (log : Log) (held : finite.get p.state.logs id ≡ Some log)
    (opened : is_open log.state ≡ true) (view : View) where
  abbrev shown : Log
  shown = with_view view log

  promised : (reveal_invariant : ContentInvariant p) → IsTrue view.is_honest → finite.get p.state.files id ≡ Some view.bytes → IsDurable p.synced id view.bytes
      → ContentInvariant (with_one p id shown p.state.files p.state.failures p.accounts p.writing)
  promised reveal_invariant honest whole synced =
      let files = p.state.files in
      let file : file_of files id ≡ view.bytes = ap (λ (o : Option (List ℕ)). unwrap_or o []) whole in
      let all : open_parts (finite.insert p.state.logs id shown) id ≡ file_of files id =
      parts_here p.state.logs id log shown held ∙ ap (λ b. cond b view.bytes []) opened ∙ sym file in
      let same = entries_stay p.state.logs id log shown held files files (λ _ _. refl) refl in
      let old = reveal_invariant.logs.each id log held in
      promises_one p id log shown held files p.state.failures p.accounts p.writing keeps.fits reveal_invariant [] (gains_same files files id refl)
      (λ at payload key never. absurd never)
      (λ _. shows_all_of_one reveal_invariant.shows (open_parts (finite.insert p.state.logs id shown)) id (parts_else p.state.logs id log shown held) all)
      (record {
        stands = old.stands;
        writes = old.writes;
        honest = λ v is. let one : view ≡ v = cc in subst (λ (x : View). IsTrue x.is_honest) one honest;
        spelled = old.spelled;
        shown = λ v is. let one : view ≡ v = cc in subst (λ (x : View). HasNoBadLength x.bytes) one (subst HasNoBadLength file old.spelled);
        kept = λ v is _. let one : view ≡ v = cc in subst (λ (x : View). IsDurable p.synced id x.bytes) one synced;
      })
      (subst (λ f. AreSums entry_measure (set.contains p.state.ledgers.dead) f (log_count p.state.index) p.accounts) (λ i q. sym (same q) i) reveal_invariant.counted)

  pub keeps_shown : IsIdle p.state id → (IsTrue p.state.honest → IsTrue view.is_honest × (finite.get p.state.files id ≡ Some view.bytes))
      → (IsTrue p.state.honest → IsDurable p.synced id (file_of p.state.files id))
      → StoreInvariant (with_one p id shown p.state.files p.state.failures p.accounts p.writing)
  keeps_shown idle seen synced =
      let fits = keeps.fits in
      let was = fits.logs.each id log held in
      record {
        fits = fits_one p id log shown held p.state.files p.state.failures p.accounts p.writing fits refl refl
            (record {
              below = was.below;
              written = was.written;
              by = λ w is. let b = was.by w is in record { state = b.state; own = b.own; going = b.going; long = b.long; empty = b.empty };
            })
            (λ key place is. views_stay p.state.logs id log shown held (λ v open_log _. (open_log, (view, refl))) place.log (fits.sent key place is))
            (λ key place is. flush_logs_stay p.state.logs id log shown held (λ f. f) place.log (fits.placed.logs key place is))
            (writing_same p.state.logs id log shown held (λ w. w) (λ w. w) p.writing fits.logs.writing)
            (fits.logs.filled id log held) (λ w. w) (λ q. refl) (fits.accounts.total id log held) (λ q _. refl);
        job = job_in p.state.keeper p id shown p.state.files p.state.failures p.accounts p.writing keeps idle (λ _ q apart. refl);
        fronts = keeps.fronts;
        promises = λ honest.
            let s = seen honest in
            let file : file_of p.state.files id ≡ view.bytes = ap (λ (o : Option (List ℕ)). unwrap_or o []) s.1 in
            promised (keeps.promises honest) s.0 s.1 (subst (IsDurable p.synced id) file (synced honest));
      }

pub keeps_show : (p q : StoreParts) (id : ℕ) (result : Result (Unit {0}) LogFault) → StoreInvariant p → CanPublishLog p.state id → PublishLogTransition p.state id result q.state
    → (IsTrue p.state.honest → OnOk result (IsDurable p.synced id (file_of p.state.files id))) → q ≡ with_state p q.state → StoreInvariant q
keeps_show p q id (Ok _) keeps may turn synced beside =
    let open_log = may.open_is in
    let log = turn.0 in
    let view = turn.2.0 in
    let both : Some log ≡ Some open_log.log = sym turn.1 ∙ open_log.held in
    let one : log ≡ open_log.log = cc in
    let opened : is_open log.state ≡ true = ap (λ (l : Log). is_open l.state) one ∙ open_log.opened in
    subst StoreInvariant (sym (beside ∙ ap (with_state p) turn.2.3))
    (keeps_failures (with_one p id (with_view view log) p.state.files p.state.failures p.accounts p.writing) q.state.files p.state.failures
    (keeps_shown p keeps id log turn.1 opened view may.idle turn.2.1 synced) turn.2.2)
keeps_show p q id (Err log_faults.Disk) keeps may turn synced beside =
    subst StoreInvariant (sym (beside ∙ ap (with_state p) turn.1)) (keeps_failures p q.state.files (p.state.failures + 1) keeps turn.0)
keeps_show p q id (Err log_faults.Memory) keeps may turn synced beside =
    subst StoreInvariant (sym (beside ∙ ap (with_state p) turn.1)) (keeps_failures p q.state.files p.state.failures keeps turn.0)
keeps_show p q id (Err log_faults.Odd) keeps may turn synced beside =
    subst StoreInvariant (sym (beside ∙ ap (with_state p) turn.1)) (keeps_failures p q.state.files p.state.failures keeps
    (λ honest. absurd (let wrong = turn.0 in cc)))
keeps_show p q id (Err log_faults.Failed) keeps may never synced beside = absurd never
