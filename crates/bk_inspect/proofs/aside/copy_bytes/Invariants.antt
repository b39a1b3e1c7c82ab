use Rattle.std.proofs.Common.{◌≤◌, ◌-◌, IsTrue}
use Rattle.bk_inspect.specs.Reading.{OnlyReads}
use Rattle.bk_inspect.proofs.Copies.{HasCopied}
use Rattle.bk_inspect.proofs.aside.copy_bytes.Given as goal

-- the log and the copies are as they were, and the log's bytes up to here stand at the end of the draft
abbrev pub invariant-loop-at : goal.invariant-loop-at
invariant-loop-at g l =
    OnlyReads (g.D.LogDisk.honest l.fn.disk) (g.D.LogDisk.files l.fn.disk) (g.D.LogDisk.honest l.disk) (g.D.LogDisk.files l.disk)
    × (OnlyReads (g.A.Aside.honest l.fn.aside) (g.A.Aside.copies l.fn.aside) (g.A.Aside.honest l.aside) (g.A.Aside.copies l.aside)
    × ((l.at ≤ l.fn.length)
    × (IsTrue (g.D.LogDisk.honest l.fn.disk) → IsTrue (g.A.Aside.honest l.fn.aside)
    → HasCopied (g.D.LogDisk.files l.fn.disk) (g.A.Aside.drafts l.fn.aside) l.fn.log l.at (g.A.Aside.drafts l.aside))))

abbrev pub decreases-loop-at : goal.decreases-loop-at
decreases-loop-at g l = l.fn.length - l.at
