use Rattle.std.proofs.Common.{IsTrue, take}
use Rattle.bk_inspect.specs.Forms.{followed}
use Rattle.bk_inspect.specs.Reading.{OnlyReads}
use Rattle.bk_inspect.specs.Shown.{AreLines, IsLogLine, WritesText}
use Rattle.bk_inspect.proofs.listing.show_logs.Given as goal

abbrev pub invariant-loop-log : goal.invariant-loop-log
invariant-loop-log g l =
    OnlyReads (g.D.LogDisk.honest l.fn.disk) (g.D.LogDisk.files l.fn.disk) (g.D.LogDisk.honest l.disk) (g.D.LogDisk.files l.disk)
    × (IsTrue (g.D.LogDisk.honest l.fn.disk) → WritesText (AreLines (IsLogLine (g.D.LogDisk.files l.fn.disk)) (take l.log-index l.log-items))
    (followed l.fn.form (g.W.Write.contents l.fn.writer)) (followed l.fn.form (g.W.Write.contents l.writer)))
