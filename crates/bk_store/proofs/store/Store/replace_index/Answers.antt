use Rattle.std.proofs.Common.{sym, subst}
use Rattle.bk_store.specs.Primitives.{CanReplaceIndex}
use Rattle.bk_store.proofs.InvariantReplaceIndex.{keeps_replace}
use Rattle.bk_store.proofs.store.Store.replace_index.Goals as goal

pub invariant_of-self : goal.invariant_of-self
invariant_of-self g c =
    keeps_replace c.self.inside.fields c.replace_index.new.self c.args.index c.self.invariant
    (subst (λ s. CanReplaceIndex s c.args.index) (sym c.self.view_is) c.requires) c.replace_index.ensures.transition c.replace_index.ensures.internals
