use Rattle.std.proofs.Common.{◌≤◌}
use Rattle.bk_inspect.specs.Reading.{OnlyReads}
use Rattle.bk_inspect.proofs.find.show_last.Given as goal

abbrev pub invariant-loop-last : goal.invariant-loop-last
invariant-loop-last g l =
    OnlyReads (g.D.LogDisk.honest l.fn.disk) (g.D.LogDisk.files l.fn.disk) (g.D.LogDisk.honest l.disk) (g.D.LogDisk.files l.disk) × (l.status ≤ 1)

abbrev pub decreases-loop-last : goal.decreases-loop-last
decreases-loop-last g l = l.turns.left
