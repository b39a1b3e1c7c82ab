use Rattle.std.proofs.Common.{◌-◌}
use Rattle.std.specs.List.{All}
use Rattle.bk_offline_gc.specs.declared.planning.Planned.{Planned}
use Rattle.bk_offline_gc.specs.Planning.{IsPlanned}
use Rattle.bk_offline_gc.proofs.planning.plan.Given as goal

-- each log that was planned has its fate
abbrev pub invariant-loop-log : goal.invariant-loop-log
invariant-loop-log g l = All (λ (p : Planned). IsPlanned l.store l.threshold p) l.planned.items

abbrev pub decreases-loop-log : goal.decreases-loop-log
decreases-loop-log g l = 2147483648 - l.from
