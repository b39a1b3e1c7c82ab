use Rattle.std.proofs.Common.{take}
use Rattle.std.specs.FinMap as map
use Rattle.bk_store.specs.Logs.{state_after_restart}
use Rattle.bk_store.proofs.FlushLogs.{ChangedSoFar}
use Rattle.bk_store.proofs.logs.LogTable.after_restart.Given as goal

abbrev pub invariant-loop-id : goal.invariant-loop-id
invariant-loop-id g l =
    ChangedSoFar state_after_restart (map.from_entries l.initial.self-inside.logs.entries) (map.from_entries l.self-inside.logs.entries) (take l.id-index l.ids)
