use Rattle.std.proofs.Common.{sym, ap, subst}
use Rattle.bk_store.specs.JobInvariant.{JobInvariant}
use Rattle.bk_store.specs.State.{StoreParts}
use Rattle.bk_store.specs.Invariant.{StoreInvariant}
use Rattle.bk_store.proofs.InvariantJob.{keeps_with_job}
use Rattle.bk_store.proofs.store.Store.set_job.Goals as goal

pub invariant_of-self : goal.invariant_of-self
invariant_of-self g c =
    let same = ap (λ x. x.fields) (sym c.self-inside.view_is) in
    keeps_with_job _ c.args.taken.job (subst StoreInvariant same c.self.invariant)
    (subst (λ (p : StoreParts). JobInvariant p.state c.args.taken.job) same (subst (λ s. JobInvariant s c.args.taken.job) (sym c.self.view_is) c.requires.keeps))
