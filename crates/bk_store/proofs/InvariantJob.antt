-- A job that is taken out of a store, or given back, preserves the store invariant.
use Rattle.std.proofs.Common.{◌≡◌, Option, Some, None, ℕ, sym, ap, subst, ◌∙◌}
use Rattle.bk_store.specs.Jobs.{Job}
use Rattle.bk_store.specs.JobInvariant.{JobInvariant}
use Rattle.bk_store.specs.State.{State, StoreParts}
use Rattle.bk_store.specs.Invariant.{StoreInvariant}
use Rattle.bk_store.specs.Logs.{IsFlushLog}
use Rattle.bk_store.specs.Primitives.{IsIdle}
use Rattle.bk_store.specs.Abstract.{SatisfiesInvariant}
use Rattle.bk_store.proofs.InvariantParts.{with_state}
use Rattle.bk_store.proofs.JobStays.{job_unflushed}

-- the parts with another job
abbrev pub with_job : StoreParts → Option Job → StoreParts
with_job p job = with_state p (record p.state { job = job })

keeps_job : (p : StoreParts) (now : Option Job) → StoreInvariant p → ((job : Job) → now ≡ Some job → JobInvariant p.state job) → StoreInvariant (with_job p now)
keeps_job p now keeps each = record { fits = keeps.fits; job = each; fronts = keeps.fronts; promises = keeps.promises }

pub keeps_without_job : (p : StoreParts) (now : Option Job) → now ≡ None → StoreInvariant p → StoreInvariant (with_job p now)
keeps_without_job p now none keeps = keeps_job p now keeps (λ job wrong. absurd (let both : None ≡ Some job = sym none ∙ wrong in cc))

pub keeps_with_job : (p : StoreParts) (own : Job) → StoreInvariant p → JobInvariant p.state own → StoreInvariant (with_job p (Some own))
keeps_with_job p own keeps kept =
    keeps_job p (Some own) keeps (λ job is. let one : own ≡ job = cc in subst (λ x. JobInvariant p.state x) one kept)

-- ---- the logs of a flush

-- no job has a log that the running flush wrote
pub flush_idle : (s : State) (id : ℕ) → SatisfiesInvariant s → IsFlushLog s.logs id → IsIdle s id
flush_idle s id kept wrote = λ job is.
    let own = kept.keeps.job job (ap (λ (x : State). x.job) kept.seen ∙ is) in
    job_unflushed s job (subst (λ x. JobInvariant x job) kept.seen own) id wrote.log wrote.held wrote.flushed
