use Rattle.std.proofs.Common.{IsSome, subst}
use Rattle.std.specs.FinMap as finite
use Rattle.bk_store.specs.State.{StoreParts}
use Rattle.bk_store.proofs.HeldIds.{held_id}
use Rattle.bk_store.proofs.store.Store.into_disk.Goals as goal

pub close_all-requires-clause-ids : goal.close_all-requires-clause-ids
close_all-requires-clause-ids g c κs within = λ id there.
    held_id c.self.inside.fields c.self.invariant.fits id (subst (λ (p : StoreParts). IsSome (finite.get p.state.logs id)) c.fields.view_is there)
