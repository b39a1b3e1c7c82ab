use Rattle.std.proofs.Common.{◌-◌}
use Rattle.bk_offline_gc.proofs.planning.count_planned.Given as goal

abbrev pub decreases-loop-log : goal.decreases-loop-log
decreases-loop-log g l = 2147483648 - l.from
