use Rattle.std.proofs.Common.{sym, subst}
use Rattle.bk_store.specs.CompactionPrimitives.{CanRelocate}
use Rattle.bk_store.proofs.InvariantRelocate.{keeps_rename}
use Rattle.bk_store.proofs.store.Store.relocate.Goals as goal

pub invariant_of-self : goal.invariant_of-self
invariant_of-self g c =
    keeps_rename c.self.inside.fields c.relocate.new.self c.args.key c.args.from c.args.to c.relocate.result c.self.invariant
    (subst (λ s. CanRelocate s c.args.key c.args.from c.args.to) (sym c.self.view_is) c.requires) c.relocate.ensures.transition c.relocate.ensures.internals
