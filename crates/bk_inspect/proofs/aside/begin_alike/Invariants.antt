use Rattle.std.proofs.Common.{◌≤◌, ◌-◌, IsTrue}
use Rattle.bk_inspect.specs.Reading.{OnlyReads}
use Rattle.bk_inspect.proofs.Copies.{AlikeUpTo}
use Rattle.bk_inspect.proofs.aside.begin_alike.Given as goal

-- the log and the copies are as they were, and their bytes up to here are the same
abbrev pub invariant-loop-at : goal.invariant-loop-at
invariant-loop-at g l =
    OnlyReads (g.D.LogDisk.honest l.fn.disk) (g.D.LogDisk.files l.fn.disk) (g.D.LogDisk.honest l.disk) (g.D.LogDisk.files l.disk)
    × (OnlyReads (g.A.Aside.honest l.fn.aside) (g.A.Aside.copies l.fn.aside) (g.A.Aside.honest l.aside) (g.A.Aside.copies l.aside)
    × ((l.at ≤ l.fn.n)
    × (IsTrue (g.D.LogDisk.honest l.fn.disk) → IsTrue (g.A.Aside.honest l.fn.aside)
    → AlikeUpTo (g.D.LogDisk.files l.fn.disk) (g.A.Aside.copies l.fn.aside) l.fn.log l.at)))

abbrev pub decreases-loop-at : goal.decreases-loop-at
decreases-loop-at g l = l.fn.n - l.at
