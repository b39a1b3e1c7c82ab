use Rattle.bk_store.proofs.InvariantAdd.{keeps_add}
use Rattle.bk_store.proofs.store.Store.add_prepared.Goals as goal

pub invariant_of-self : goal.invariant_of-self
invariant_of-self g c = keeps_add c.self.inside.fields c.add_prepared.new.self c.args.kind c.args.entry c.add_prepared.result c.self.invariant
    c.add_prepared.ensures.transition c.add_prepared.ensures.internals
