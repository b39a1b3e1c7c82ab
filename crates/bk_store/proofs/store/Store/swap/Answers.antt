use Rattle.bk_store.proofs.InvariantSwap.{keeps_swap}
use Rattle.bk_store.proofs.store.Store.swap.Goals as goal

pub invariant_of-self : goal.invariant_of-self
invariant_of-self g c = keeps_swap c.self.inside.fields c.swap.new.self c.swap.result c.self.invariant c.swap.ensures.transition c.swap.ensures.internals
