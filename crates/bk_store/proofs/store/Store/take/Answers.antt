use Rattle.bk_store.proofs.InvariantTake.{keeps_take}
use Rattle.bk_store.proofs.store.Store.take.Goals as goal

pub invariant_of-self : goal.invariant_of-self
invariant_of-self g c =
    keeps_take g.D.View.LogView.bytes g.D.View.LogView.honest g.D.View.LogView.sound c.self.inside.fields c.take.new.self c.args.key c.take.result
    c.self.invariant c.take.ensures.transition c.take.ensures.internals
