-- The transitions of the calls, composed of those of their parts while the job is out of the store.
use Rattle.std.proofs.Common.{◌≡◌, ◌⊎◌, inl, inr, ℕ, ◌+◌, Bool, true, false, IsTrue, List, []}
use Rattle.std.proofs.Common.{◌∷◌, take, Option, Some, None, Result, Ok, Err, IsErrOf, refl, sym, ap, subst, ◌∙◌, arith}
use Rattle.std.proofs.lemmas.Option.{same_Some}
use Rattle.bk_disk.specs.Disk.{FailsExactlyIf}
use Rattle.bk_log.specs.declared.found.Found.{Found}
use Rattle.bk_store.specs.Logs.{View, last_view, view_of}
use Rattle.bk_store.specs.State.{State}
use Rattle.bk_store.specs.Jobs.{Job}
use Rattle.bk_store.specs.JobInvariant.{JobInvariant, copy_state}
use Rattle.bk_store.specs.Primitives.{IsIdle, IsIn, CanSetLogState, SetLogStateTransition}
use Rattle.bk_store.specs.Abstract.{SatisfiesInvariant}
use Rattle.bk_store.specs.declared.job.Phase.{Phase}
use Rattle.bk_store.specs.declared.job.Phase.TheVariants.{Copy}
use Rattle.bk_store.specs.declared.log.LogState.TheVariants.{Copying, Readable}
use Rattle.bk_store.proofs.JobStays.{job_stays, stays_same}
use Rattle.bk_compact.specs.declared.answer.CopyAnswer.{CopyAnswer}
use Rattle.bk_compact.specs.declared.answer.CopyAnswer.TheVariants as copies
use Rattle.bk_store.specs.declared.step_fault.StepFault.{StepFault}
use Rattle.bk_store.specs.declared.step_fault.StepFault.TheVariants as step_faults
use Rattle.bk_compact.specs.declared.entries.Stopped.{Stopped}
use Rattle.bk_compact.specs.declared.scanning.Unread.{Unread}
use Rattle.bk_compact.specs.declared.scanning.Unread.TheVariants as unreads
use Rattle.bk_compact.specs.declared.entries.Stopped.TheVariants as stops
use Rattle.bk_store.specs.Faults.{ReportsDeviceFault}
use Rattle.bk_compact.specs.Compacting.{AreFound, CopyTransition, EndCopyTransition, Examines, ExaminesAll, HasUnsoundSource}
use Rattle.bk_compact.specs.Compacting.{IsRunning, SourceFails, Steps, BoundsDeviceFaults, entries_left, with_job}
use Rattle.bk_compact.specs.JobSteps.{CopiesAll, CopiesNext, IsAtEnd, IsCopying, fault_of_unread}
use Rattle.bk_compact.proofs.Stored.{kept_job}

-- ---- a running job

module _ (s : State) (kept : SatisfiesInvariant s) (job : Job) (running : IsRunning s Copy job) where
  pub running_keeps : JobInvariant s job
  running_keeps = kept_job s kept job running.runs

  -- the job is taken out of the store
  module _ (t : State) (out : t ≡ with_job s None) where
    pub taken_copying : IsCopying t job
    taken_copying = record {
      out = record {
        none = ap (λ (x : State). x.job) out;
        keeps = job_stays s t job
            (stays_same s t job (ap (λ (x : State). x.honest) out) (ap (λ (x : State). x.logs) out) (ap (λ (x : State). x.index) out)
            (λ _. ap (λ (x : State). x.files) out)) running_keeps;
      };
      phase = running.phase_is;
    }

    copy_there : IsIn t job.copy Copying
    copy_there = subst (λ (p : Phase). IsIn t job.copy (copy_state p)) running.phase_is taken_copying.out.keeps.copy

    no_job : (id : ℕ) → IsIdle t id
    no_job id other runs = absurd (not_both other (sym taken_copying.out.none ∙ runs))
      where
        not_both : (j : Job) → None ≡ Some j → ⊥
        not_both j wrong = cc

    pub may_abandon : CanSetLogState t job.copy Readable
    may_abandon = (copy_there, no_job job.copy)

-- ---- copying

steps_back : (s : State) (job : Job) (n copied : ℕ) (t : State) (after : Job) → Steps (with_job s None) job n copied t after → Steps s job n copied t after
steps_back s job n copied t after steps = record { founds = steps.founds; bound = steps.bound; first = steps.first; examined = steps.examined }

module _ (s : State) (job : Job) (running : IsRunning s Copy job) (n : ℕ) (mid : State) (after : Job) (t : State) where
  pub copied_turn : (k : ℕ) → IsAtEnd s job false → CopiesAll (with_job s None) job n (Ok k) mid after → t ≡ with_job mid (Some after)
      → CopyTransition s n (Ok (copies.Copied k)) t
  unfolding steps_back
  copied_turn k left all back = (
    job,
    running,
    (mid, (after, (steps_back s job n k mid after all.0.0, all.0.1), left, back)),
  )

  pub memory_turn : (done : ℕ) → IsAtEnd s job false → CopiesAll (with_job s None) job n (Err (stops.Memory done)) mid after
      → t ≡ with_job mid (Some after) → CopyTransition s n (Err (step_faults.Memory done)) t
  memory_turn done left all back =
      let was = all.0.0 in
      let same : mid ≡ record was { files = mid.files } = all.0.3 in (
        job,
        running,
        (
          was,
          (
            after,
            steps_back s job n done was after all.0.1,
            record {
              files = λ honest. ap (λ (x : State). x.files) back ∙ all.0.2 honest;
              left = back ∙ ap (λ (x : State). with_job x (Some after)) same
                  ∙ ap (λ f. record was { files = f; job = Some after }) (sym (ap (λ (x : State). x.files) back));
            },
            left,
          ),
        ),
      )

  pub unread_turn : CopiesAll (with_job s None) job n (Err stops.Unread) mid after → t ≡ with_job mid (Some after) → CopyTransition s n (Err step_faults.Disk) t
  unread_turn all back = (
    job,
    running,
    (all.0.0, (mid, (after, steps_back s job n all.0.0 mid after all.0.1, inl (all.1, back)))),
  )

  pub failed_turn : CopiesAll (with_job s None) job n (Err stops.Failed) t after → CopyTransition s n (Err step_faults.Disk) t
  failed_turn all =
      let last = all.1.0 in
      let job' = all.1.1.0 in (
        job,
        running,
        (all.0, (last, (job', steps_back s job n all.0 last job' all.1.1.1, inr all.1.1.2))),
      )

  pub odd_turn : CopiesAll (with_job s None) job n (Err stops.Odd) t after → CopyTransition s n (Err step_faults.Odd) t
  odd_turn all =
      let last = all.1.1.0 in
      let job' = all.1.1.1.0 in (
        job,
        running,
        (all.0, (all.1.0, (last, (job', steps_back s job n all.1.0 last job' all.1.1.1.1, all.1.1.1.2)))),
      )

-- reading the source log failed before any entry was examined
pub unbegun : (s : State) (job : Job) (n : ℕ) → Steps s job n 0 (with_job s None) job
unbegun s job n = record { founds = []; bound = omega arith; first = λ _. tt; examined = (refl, refl, refl) }

pub back_same : (s : State) (job : Job) → s.job ≡ Some job → s ≡ with_job s (Some job)
back_same s job runs = ap (λ j. with_job s j) runs

-- no entry is left, or none was requested
module _ (s : State) (job : Job) (running : IsRunning s Copy job) (n : ℕ) where
  pub none_turn : (mid : State) (after : Job) (t : State) → CopiesNext (with_job s None) job n (Ok None) mid after → t ≡ with_job mid (Some after)
      → CopyTransition s n (Ok copies.AtEnd) t
  none_turn mid after t next back = (
    job,
    running,
    next.0,
    back ∙ (λ i. with_job (next.1 i) (Some (next.2 i))) ∙ sym (back_same s job running.runs),
  )

  pub nothing_turn : n ≡ 0 → IsAtEnd s job false → CopyTransition s n (Ok (copies.Copied 0)) s
  unfolding unbegun
  nothing_turn none left = (
    job,
    running,
    (
      with_job s None,
      (
        job,
        (unbegun s job n, λ honest. subst (λ (k : ℕ). AreFound (take k (entries_left s job)) []) (sym none) tt),
        left,
        back_same s job running.runs,
      ),
    ),
  )

-- result of examining entries, for the job before it was taken out
pub told_next : (s out : State) (job taken : Job) (n : ℕ) (t : State) (after : Job) → out ≡ with_job s None → taken ≡ job
    → (told result : Result (Option ℕ) Stopped) → told ≡ result → CopiesNext out taken n told t after → CopiesNext (with_job s None) job n result t after
told_next s out job taken n t after is_out same told result is next =
    subst (λ (j : Job). CopiesNext (with_job s None) j n result t after) same
    (subst (λ (u : State). CopiesNext u taken n result t after) is_out
    (subst (λ (r : Result (Option ℕ) Stopped). CopiesNext out taken n r t after) is next))

-- copying did not begin
module _ (s : State) (job : Job) (running : IsRunning s Copy job) (n : ℕ) where
  pub refused_turn : IsAtEnd s job false → CopyTransition s n (Err (step_faults.Memory 0)) s
  refused_turn left =
      (job, running, (with_job s None, (job, unbegun s job n, record { files = λ _. refl; left = back_same s job running.runs }, left)))

  pub unsound_turn : HasUnsoundSource s job → CopyTransition s n (Err step_faults.Disk) s
  unsound_turn unsound =
      (job, running, (0, (with_job s None, (job, unbegun s job n, inl (unsound, back_same s job running.runs)))))

  pub abandoned_turn : (t : State) → s.honest ≡ false → SetLogStateTransition (with_job s None) job.copy Readable t → CopyTransition s n (Err step_faults.Odd) t
  abandoned_turn t odd set = (job, running, (odd, (0, (with_job s None, (job, unbegun s job n, inl set)))))

-- ---- failure count

examined_failures : (s : State) (job : Job) (founds : List Found) (copied : ℕ) (t : State) (after : Job) → ExaminesAll s job founds copied t after
    → t.failures ≡ s.failures
examined_failures s job [] copied t after all = ap (λ (x : State). x.failures) all.1
examined_failures s job (f ∷ founds) copied t after all =
    examined_failures all.1.0 all.1.1.0 founds all.1.1.2.0 t after all.1.1.2.2 ∙ one all.0 all.1.1.1
  where
    one : (b : Bool) → Examines s job f b all.1.0 all.1.1.0 → all.1.0.failures ≡ s.failures
    one true turn = ap (λ (x : State). x.failures) turn.1.1.put.1.4
    one false turn = ap (λ (x : State). x.failures) turn.1

steps_failures : (s : State) (job : Job) (n copied : ℕ) (t : State) (after : Job) → Steps s job n copied t after → t.failures ≡ s.failures
steps_failures s job n copied t after steps = examined_failures (with_job s None) job steps.founds copied t after steps.examined

set_failures : (s t : State) (id : ℕ) → SetLogStateTransition s id Readable t → t.failures ≡ s.failures
set_failures s t id turn = ap (λ (x : State). x.failures) turn.2

-- the failure count rises by at most one
copy_counts : (s : State) (n : ℕ) (result : Result CopyAnswer StepFault) (t : State) → CopyTransition s n result t
    → (t.failures ≡ s.failures) ⊎ ((t.failures ≡ s.failures + 1) × (result ≡ Err step_faults.Disk))
copy_counts s n (Ok copies.NoJob) t turn = inl (ap (λ (x : State). x.failures) turn.1)
copy_counts s n (Ok copies.NotNow) t turn = inl (ap (λ (x : State). x.failures) turn.1)
copy_counts s n (Ok copies.AtEnd) t turn = inl (ap (λ (x : State). x.failures) turn.3)
copy_counts s n (Ok (copies.Copied k)) t turn =
    let mid = turn.2.0 in
    inl (ap (λ (x : State). x.failures) turn.2.1.3 ∙ steps_failures s turn.0 n k mid turn.2.1.0 turn.2.1.1.0)
copy_counts s n (Err (step_faults.Memory done)) t turn =
    let mid = turn.2.0 in
    inl (ap (λ (x : State). x.failures) turn.2.1.2.left ∙ steps_failures s turn.0 n done mid turn.2.1.0 turn.2.1.1)
copy_counts s n (Err step_faults.Disk) t turn =
    let mid = turn.2.1.0 in
    let same = steps_failures s turn.0 n turn.2.0 mid turn.2.1.1.0 turn.2.1.1.1 in
    elim turn.2.1.1.2 [
      | inl read ↦ inl (ap (λ (x : State). x.failures) read.1 ∙ same)
      | inr put ↦ inr (ap (λ (x : State). x.failures) put.1.1.put.3 ∙ ap (λ k. k + 1) same, refl)
    ]
copy_counts s n (Err step_faults.Odd) t turn =
    let odd = turn.2.1 in
    let mid = odd.1.0 in
    let same = steps_failures s turn.0 n odd.0 mid odd.1.1.0 odd.1.1.1 in
    elim odd.1.1.2 [
      | inl set ↦ inl (set_failures mid t turn.0.copy set ∙ same)
      | inr put ↦ inl (ap (λ (x : State). x.failures) put.1.1.put.1.2 ∙ same)
    ]
copy_counts s n (Err step_faults.LogsFull) t turn = absurd turn.2
copy_counts s n (Err step_faults.NoMoreIds) t turn = absurd turn.2

pub copy_tells : (s : State) (n : ℕ) (result : Result CopyAnswer StepFault) (t : State) → CopyTransition s n result t → BoundsDeviceFaults s result t
copy_tells s n result t turn = elim (copy_counts s n result t turn) [
  | inl same ↦ record { later = omega (arith, same); once = omega (arith, same); told_so = λ more. absurd (omega (arith, same, more)) }
  | inr once ↦ record { later = omega (arith, once.0); once = omega (arith, once.0); told_so = λ _. once.1 }
]

-- if the result is not `Disk`, the failure count is unchanged
pub copy_caused : (s : State) (n : ℕ) (result : Result CopyAnswer StepFault) (t : State) → CopyTransition s n result t → ¬ (result ≡ Err step_faults.Disk)
    → FailsExactlyIf s.failures t.failures (result ≡ Err step_faults.Disk)
copy_caused s n result t turn not = elim (copy_counts s n result t turn) [
  | inl same ↦ record {
    later = omega (arith, same);
    once = omega (arith, same);
    failed = λ told. absurd (not told);
    told = λ more. absurd (omega (arith, same, more));
  }
  | inr once ↦ absurd (not once.1)
]

-- the device failed once
pub once_caused : (before now : ℕ) {Told : Type 0} → now ≡ before + 1 → Told → FailsExactlyIf before now Told
once_caused before now once told = record { later = omega (arith, once); once = omega (arith, once); failed = λ _. omega (arith, once); told = λ _. told }

-- if all views of this type can be read, the source log can be read
pub never_unsound : {V : Type 0} (bytes : V → List ℕ) (honest sound : V → Bool) → ((view : V) → IsTrue (sound view)) → (s : State) (job : Job) (v : V)
    → last_view s.logs job.source ≡ Some (view_of bytes honest sound v) → HasUnsoundSource s job → ⊥
never_unsound bytes honest sound all s job v last is =
    let same : is.0 ≡ view_of bytes honest sound v = same_Some is.0 (view_of bytes honest sound v) (sym is.1 ∙ last) in
    not_both (sound v) (all v) (sym (ap (λ (x : View). x.is_sound) same) ∙ is.2)
  where
    not_both : (b : Bool) → b ≡ true → b ≡ false → ⊥
    not_both b one other = cc

pub failed_once : (s : State) (job : Job) (n : ℕ) (t : State) (after : Job) → CopiesAll (with_job s None) job n (Err stops.Failed) t after
    → FailsExactlyIf s.failures t.failures (IsErrOf {T = CopyAnswer} (Err step_faults.Disk) step_faults.Disk)
failed_once s job n t after all =
    let same = steps_failures (with_job s None) job n all.0 all.1.0 all.1.1.0 all.1.1.1 in
    once_caused s.failures t.failures (ap (λ (x : State). x.failures) all.1.1.2.1.1.put.3 ∙ ap (λ k. k + 1) same) refl

-- ---- a compaction that ends because its source log could not be read

module _ (s t : State) (job : Job) (running : IsRunning s Copy job) (set : SetLogStateTransition (with_job s None) job.copy Readable t)
    (unread : Unread) (fault : StepFault)
    (told_so : fault ≡ fault_of_unread unread) where
  pub abandoned_end : SourceFails s job (fault_of_unread unread) → EndCopyTransition s (Err fault) t
  abandoned_end fails = subst (λ (f : StepFault). EndCopyTransition s (Err f) t) (sym told_so) (job, running, inl (fails, set))

  same_count : t.failures ≡ s.failures
  same_count = set_failures (with_job s None) t job.copy set

  pub abandoned_tells : {T : Type 0} → BoundsDeviceFaults {T = T} s (Err fault) t
  abandoned_tells = record {
    later = omega (arith, same_count);
    once = omega (arith, same_count);
    told_so = λ more. absurd (omega (arith, more, same_count));
  }

  pub abandoned_cause : {T : Type 0} → ¬ (IsErrOf {T = Bool} (Err unread) unreads.Disk) → ReportsDeviceFault {T = T} s (Err fault) t
  abandoned_cause never = record {
    later = omega (arith, same_count);
    once = omega (arith, same_count);
    failed = λ told. absurd (no_disk unread never (sym told_so ∙ one told));
    told = λ more. absurd (omega (arith, more, same_count));
  }
    where
      one : {T : Type 0} → IsErrOf {T = T} (Err fault) step_faults.Disk → fault ≡ step_faults.Disk
      one same = cc

      no_disk : (r : Unread) → ¬ (IsErrOf {T = Bool} (Err r) unreads.Disk) → fault_of_unread r ≡ step_faults.Disk → ⊥
      no_disk unreads.Disk not told = not refl
      no_disk unreads.Odd not told = cc
