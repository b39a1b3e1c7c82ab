use Rattle.std.proofs.Common.{sym, ap, subst}
use Rattle.bk_store.specs.Invariant.{StoreInvariant}
use Rattle.bk_store.proofs.InvariantJob.{keeps_without_job}
use Rattle.bk_store.proofs.store.Store.take_job.Goals as goal

pub invariant_of-self : goal.invariant_of-self
invariant_of-self g c = keeps_without_job _ c.take.new.self c.take.ensures.after (subst StoreInvariant (ap (λ x. x.fields) (sym c.self-inside.view_is)) c.self.invariant)
