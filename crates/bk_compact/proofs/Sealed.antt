-- The target log is sealed and published while the job is out of the store.
use Rattle.std.proofs.Common.{◌≡◌, inr, ℕ, true, IsTrue, [], length}
use Rattle.std.proofs.Common.{Some, None, Result, Ok, Err, refl, sym, ap, subst, ◌∙◌}
use Rattle.std.proofs.lemmas.Option.{none-some}
use Rattle.std.specs.FinMap as finite
use Rattle.bk_log.specs.declared.fault.LogFault.{LogFault}
use Rattle.bk_store.specs.Jobs.{Job}
use Rattle.bk_store.specs.JobInvariant.{JobInvariant}
use Rattle.bk_store.specs.Logs.{unwritten_log}
use Rattle.bk_store.specs.State.{State}
use Rattle.bk_store.specs.Primitives.{CanPublishLog, SealLogTransition, PublishLogTransition}
use Rattle.bk_store.specs.Abstract.{SatisfiesInvariant}
use Rattle.bk_store.specs.declared.job.Phase.TheVariants.{Copy, Switch}
use Rattle.bk_store.specs.declared.log.LogState.TheVariants.{Readable}
use Rattle.bk_store.proofs.LogMaps.{log-inserted}
use Rattle.bk_store.specs.Faults.{step_fault_of}
use Rattle.bk_compact.specs.Compacting.{IsRunning, EndCopyTransition, SealsCopy, ShowsCopy, entries_left, with_job}
use Rattle.bk_compact.specs.JobSteps.{IsAtEnd, IsCopying}
use Rattle.bk_compact.specs.declared.answer.EndAnswer.TheVariants as ends
use Rattle.bk_store.specs.declared.step_fault.StepFault.{StepFault}
use Rattle.bk_compact.proofs.Ended.{sealed_keeps}
use Rattle.bk_compact.proofs.Finished.{taken_out}

-- a log that was just sealed can be published, if no job has it
pub may_show_sealed : (s mid : State) (id : ℕ) → s.job ≡ None → SealLogTransition s id Readable (Ok tt) mid → CanPublishLog mid id
may_show_sealed s mid id none seals =
    let held : finite.get mid.logs id ≡ Some (unwritten_log Readable seals.log) =
    ap (λ (x : State). finite.get x.logs id) seals.left ∙ log-inserted s.logs id (unwritten_log Readable seals.log) id refl in
    record {
      open_is = record { log = unwritten_log Readable seals.log; held = held; opened = refl };
      idle = λ job runs. absurd (none-some job (sym none ∙ sym (ap (λ (x : State). x.job) seals.left) ∙ runs));
    }

module _ (s out : State) (kept : SatisfiesInvariant s) (job own : Job) (running : IsRunning s Copy job) (same : own ≡ job) (left : out ≡ with_job s None)
    (all : IsAtEnd s job true) (id : ℕ) (copy_is : id ≡ own.copy) where
  own_runs : s.job ≡ Some own
  own_runs = running.runs ∙ ap (λ (j : Job). Some j) (sym same)

  copying : IsCopying out own
  copying = record { out = taken_out s out kept own own_runs left; phase = ap (λ (j : Job). j.phase) same ∙ running.phase_is }

  none_left : IsTrue out.honest → entries_left out own ≡ []
  none_left honest = (λ i. entries_left (left i) (same i)) ∙ all (sym (ap (λ (x : State). x.honest) left) ∙ honest)

  -- the job invariant after the target log is sealed and published
  pub switch_keeps : (mid t : State) → SealLogTransition out id Readable (Ok tt) mid → PublishLogTransition mid id (Ok tt) t → (next : Job)
      → next ≡ record own { phase = Switch } → JobInvariant t next
  switch_keeps mid t seals shows next begins =
      subst (JobInvariant t) (sym begins)
      (sealed_keeps out mid t own copying none_left (subst (λ n. SealLogTransition out n Readable (Ok tt) mid) copy_is seals)
      (subst (λ n. PublishLogTransition mid n (Ok tt) t) copy_is shows))

  copy_same : id ≡ job.copy
  copy_same = copy_is ∙ ap (λ (j : Job). j.copy) same

  pub seals_copy : (result : Result (Unit {0}) LogFault) (mid : State) → SealLogTransition out id Readable result mid → SealsCopy s job result mid
  seals_copy result mid seals = record {
    all = all;
    sealed = subst (λ x. SealLogTransition x job.copy Readable result mid) left (subst (λ n. SealLogTransition out n Readable result mid) copy_same seals);
  }

  pub shows_copy : (result : Result (Unit {0}) LogFault) (mid t : State) → SealLogTransition out id Readable (Ok tt) mid → PublishLogTransition mid id result t
      → ShowsCopy s job result t
  shows_copy result mid t seals shows = (mid, seals_copy (Ok tt) mid seals, subst (λ n. PublishLogTransition mid n result t) copy_same shows)

  pub ended : (mid shown t : State) → SealLogTransition out id Readable (Ok tt) mid → PublishLogTransition mid id (Ok tt) shown → (next : Job) → next ≡ record own { phase = Switch }
      → t ≡ record shown { job = Some next } → (k : ℕ) → k ≡ length next.moves → EndCopyTransition s (Ok (ends.Ended k)) t
  ended mid shown t seals shows next begins set k count = (
    job,
    running,
    count ∙ ap (λ (j : Job). length j.moves) (begins ∙ ap (λ (j : Job). record j { phase = Switch }) same),
    (
      shown,
      shows_copy (Ok tt) mid shown seals shows,
      set ∙ ap (λ (j : Job). record shown { job = Some j }) (begins ∙ ap (λ (j : Job). record j { phase = Switch }) same),
    ),
  )

  pub not_shown : (cause : LogFault) (fault : StepFault) (mid t : State) → fault ≡ step_fault_of cause → SealLogTransition out id Readable (Ok tt) mid
      → PublishLogTransition mid id (Err cause) t → EndCopyTransition s (Err fault) t
  not_shown cause fault mid t told_so seals shows = (job, running, inr (cause, told_so, inr (shows_copy (Err cause) mid t seals shows)))
