use Rattle.bk_store.specs.declared.adding.AddKind.TheVariants.{Recovery}
use Rattle.bk_store.proofs.InvariantAdd.{keeps_add}
use Rattle.bk_store.proofs.store.Store.add_recovery.Goals as goal

pub invariant_of-self : goal.invariant_of-self
invariant_of-self g c = keeps_add c.self.inside.fields c.add.new.self Recovery c.args.payload.now c.add.result c.self.invariant
    c.add.ensures.transition c.add.ensures.internals
