use Rattle.std.proofs.Common.{◌-◌}
use Rattle.bk_offline_gc.specs.Stages.{HasKeptTo}
use Rattle.bk_offline_gc.proofs.clearing.count_kept.Given as goal

abbrev pub invariant-loop-log : goal.invariant-loop-log
invariant-loop-log g l = HasKeptTo l.store l.from l.kept

abbrev pub decreases-loop-log : goal.decreases-loop-log
decreases-loop-log g l = 2147483648 - l.from
