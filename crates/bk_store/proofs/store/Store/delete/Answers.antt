use Rattle.bk_store.proofs.InvariantDelete.{keeps_delete}
use Rattle.bk_store.proofs.store.Store.delete.Goals as goal

pub invariant_of-self : goal.invariant_of-self
invariant_of-self g c = keeps_delete c.self.inside.fields c.delete.new.self c.args.ledger c.delete.result c.self.invariant
    c.delete.ensures.transition c.delete.ensures.internals
