use Rattle.std.proofs.Common.{subst}
use Rattle.bk_store.specs.Logs.{IsNextHeld}
use Rattle.bk_store.proofs.HeldIds.{held_from}
use Rattle.bk_store.proofs.store.Store.log_from.Goals as goal

pub returns-clause-bound : goal.returns-clause-bound
returns-clause-bound g c =
    held_from c.self.inside.fields c.self.invariant.fits c.args.id c.next_from.result
    (subst (λ p. IsNextHeld p.fields.state.logs c.args.id c.next_from.result) c.self-inside.view_is c.next_from.ensures)
