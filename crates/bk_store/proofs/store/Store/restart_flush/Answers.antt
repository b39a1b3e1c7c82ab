use Rattle.bk_store.proofs.InvariantFlushEnds.{keeps_restart}
use Rattle.bk_store.proofs.store.Store.restart_flush.Goals as goal

pub invariant_of-self : goal.invariant_of-self
invariant_of-self g c =
    keeps_restart c.self.inside.fields c.restart_flush.new.self c.self.invariant c.restart_flush.ensures.transition c.restart_flush.ensures.internals
