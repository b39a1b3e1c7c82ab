use Rattle.bk_store.proofs.InvariantFence.{keeps_fence}
use Rattle.bk_store.proofs.store.Store.fence.Goals as goal

pub invariant_of-self : goal.invariant_of-self
invariant_of-self g c = keeps_fence c.self.inside.fields c.fence.new.self c.args.ledger c.fence.result c.self.invariant
    c.fence.ensures.transition c.fence.ensures.internals
