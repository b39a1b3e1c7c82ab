use Rattle.std.proofs.Common.{sym, subst}
use Rattle.bk_store.specs.Primitives.{CanSetLogState}
use Rattle.bk_store.proofs.InvariantSetState.{keeps_set}
use Rattle.bk_store.proofs.store.Store.set_log_state.Goals as goal

pub invariant_of-self : goal.invariant_of-self
invariant_of-self g c =
    keeps_set c.self.inside.fields c.set_log_state.new.self c.args.log c.args.state c.self.invariant
    (subst (λ s. CanSetLogState s c.args.log c.args.state) (sym c.self.view_is) c.requires) c.set_log_state.ensures.transition c.set_log_state.ensures.internals
