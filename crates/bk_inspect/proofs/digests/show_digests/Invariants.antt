use Rattle.std.proofs.Common.{◌≤◌}
use Rattle.bk_inspect.specs.Reading.{OnlyReads}
use Rattle.bk_inspect.proofs.digests.show_digests.Given as goal

abbrev pub invariant-loop-ledgers : goal.invariant-loop-ledgers
invariant-loop-ledgers g l =
    OnlyReads (g.D.LogDisk.honest l.fn.disk) (g.D.LogDisk.files l.fn.disk) (g.D.LogDisk.honest l.disk) (g.D.LogDisk.files l.disk) × (l.status ≤ 1)

abbrev pub decreases-loop-ledgers : goal.decreases-loop-ledgers
decreases-loop-ledgers g l = l.turns.left
