use Rattle.std.proofs.Common.{ℕ, subst}
use Rattle.std.specs.List.{All}
use Rattle.bk_offline_gc.specs.declared.planning.Planned.{Planned}
use Rattle.bk_offline_gc.specs.Planning.{IsPlanned}
use Rattle.bk_offline_gc.proofs.planning.plan.Goals as goal

pub returns : goal.returns
returns g c =
    subst (λ (n : ℕ). All (λ (p : Planned). IsPlanned c.args.store.now n p) c.loop-log.planned.items) c.threshold-threshold.ensures c.loop-log.invariant
