-- The end of a compaction: the obligations of its calls, and that no index entry points into an
-- undisturbed source log.
use Rattle.std.proofs.Common.{◌≡◌, ℕ, ◌<◌, IsTrue, Option}
use Rattle.std.proofs.Common.{Some, None, option_map, sym, ap, subst, ◌∙◌, arith}
use Rattle.std.specs.FinMap as finite
use Rattle.bk_record.specs.Keyed.{log_count}
use Rattle.bk_store.specs.Jobs.{Job}
use Rattle.bk_store.specs.JobInvariant.{JobInvariant}
use Rattle.bk_store.specs.Logs.{Log}
use Rattle.bk_store.specs.State.{State}
use Rattle.bk_store.specs.Abstract.{SatisfiesInvariant}
use Rattle.bk_compact.specs.Compacting.{IsUndisturbed, with_job}
use Rattle.bk_compact.specs.JobSteps.{IsTakenOut}
use Rattle.bk_store.proofs.JobStays.{job_stays, stays_same}
use Rattle.bk_compact.proofs.Ended.{source_unnamed}

-- the job in a store satisfies its invariant
pub kept_job : (s : State) → SatisfiesInvariant s → (job : Job) → s.job ≡ Some job → JobInvariant s job
kept_job s kept = subst (λ (t : State). (job : Job) → t.job ≡ Some job → JobInvariant t job) kept.seen kept.keeps.job

-- the job invariant also holds when the job is taken out
pub taken_out : (s t : State) → SatisfiesInvariant s → (job : Job) → s.job ≡ Some job → t ≡ with_job s None → IsTakenOut t job
taken_out s t kept job runs out = record {
  none = ap (λ (x : State). x.job) out;
  keeps = job_stays s t job
      (stays_same s t job (ap (λ (x : State). x.honest) out) (ap (λ (x : State). x.logs) out) (ap (λ (x : State). x.index) out)
      (λ _. ap (λ (x : State). x.files) out))
      (kept_job s kept job runs);
}

-- On an honest disk no index entry points into the source log of a compaction without pending
-- relocations whose index was not rebuilt.
pub undisturbed_unnamed : (s : State) → SatisfiesInvariant s → (source : ℕ) → IsUndisturbed s source → IsTrue s.honest → log_count s.index source ≡ 0
undisturbed_unnamed s kept source is honest =
    ap (log_count s.index) (sym is.source_is)
    ∙ source_unnamed s kept is.job (kept_job s kept is.job is.switched.running.runs) is.switched.running.phase_is is.switched.none is.kept honest

-- so the result is not `StillNamed`
pub still_named : (s : State) → SatisfiesInvariant s → (job : Job) → s.job ≡ Some job → (named : ℕ) → 0 < named
    → Some named ≡ option_map (λ (_ : Log). log_count s.index job.source) (finite.get s.logs job.source)
    → IsTrue s.honest → (source : ℕ) → IsUndisturbed s source → ⊥
still_named s kept job runs named some is honest source whole =
    let one : Some job ≡ Some whole.job = sym runs ∙ whole.switched.running.runs in
    let same : job ≡ whole.job = cc in
    let here : job.source ≡ source = ap (λ (j : Job). j.source) same ∙ whole.source_is in
    let none = undisturbed_unnamed s kept source whole honest in
    counted (finite.get s.logs job.source) (ap (log_count s.index) here ∙ none) is
  where
    counted : (o : Option Log) → log_count s.index job.source ≡ 0 → Some named ≡ option_map (λ (_ : Log). log_count s.index job.source) o → ⊥
    counted None zero wrong = cc
    counted (Some l) zero same = let equal : named ≡ log_count s.index job.source = cc in omega (arith, equal, zero, some)
