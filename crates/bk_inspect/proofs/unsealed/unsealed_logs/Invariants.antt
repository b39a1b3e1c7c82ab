use Rattle.std.proofs.Common.{IsTrue, take}
use Rattle.bk_inspect.specs.Reading.{OnlyReads}
use Rattle.bk_inspect.specs.Unsealed.{ArePicked, HasOpenHead}
use Rattle.bk_inspect.proofs.unsealed.unsealed_logs.Given as goal

abbrev pub invariant-loop-log : goal.invariant-loop-log
invariant-loop-log g l =
    OnlyReads (g.D.LogDisk.honest l.fn.disk) (g.D.LogDisk.files l.fn.disk) (g.D.LogDisk.honest l.disk) (g.D.LogDisk.files l.disk)
    × (IsTrue (g.D.LogDisk.honest l.fn.disk) → ArePicked (HasOpenHead (g.D.LogDisk.files l.fn.disk)) (take l.log-index l.log-items) l.picked.items)
