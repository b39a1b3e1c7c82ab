use Rattle.std.proofs.Common.{◌-◌}
use Rattle.bk_store.proofs.Shutting.{IsReopening}
use Rattle.bk_store.proofs.logs.LogTable.open_below.Given as goal

abbrev pub invariant-loop-id : goal.invariant-loop-id
invariant-loop-id g l = IsReopening l.self l.initial.keeper l.keeper l.from l.end

abbrev pub decreases-loop-id : goal.decreases-loop-id
decreases-loop-id g l = l.end - l.from
