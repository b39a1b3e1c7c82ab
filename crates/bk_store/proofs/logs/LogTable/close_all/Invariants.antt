use Rattle.std.proofs.Common.{◌-◌}
use Rattle.bk_store.proofs.Shutting.{IsShutting}
use Rattle.bk_store.proofs.logs.LogTable.close_all.Given as goal

abbrev pub invariant-loop-id : goal.invariant-loop-id
invariant-loop-id g l = IsShutting l.self l.initial.keeper l.keeper l.from

abbrev pub decreases-loop-id : goal.decreases-loop-id
decreases-loop-id g l = 2147483648 - l.from
