use Rattle.std.proofs.Common.{◌-◌}
use Rattle.bk_collect.proofs.Reading.{IsReading}
use Rattle.bk_collect.proofs.rebuilding.read_logs.Given as goal

abbrev pub invariant-loop-log : goal.invariant-loop-log
invariant-loop-log g l = IsReading l.store l.from l.index

abbrev pub decreases-loop-log : goal.decreases-loop-log
decreases-loop-log g l = 2147483648 - l.from
