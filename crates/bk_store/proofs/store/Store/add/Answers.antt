use Rattle.bk_store.specs.declared.adding.AddKind.TheVariants.{Ordinary}
use Rattle.bk_store.proofs.InvariantAdd.{keeps_add}
use Rattle.bk_store.proofs.store.Store.add.Goals as goal

pub invariant_of-self : goal.invariant_of-self
invariant_of-self g c = keeps_add c.self.inside.fields c.add.new.self Ordinary c.args.payload.now c.add.result c.self.invariant
    c.add.ensures.transition c.add.ensures.internals
