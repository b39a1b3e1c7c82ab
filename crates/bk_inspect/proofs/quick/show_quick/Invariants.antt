use Rattle.std.proofs.Common.{◌≤◌, IsTrue}
use Rattle.bk_inspect.specs.Forms.{followed}
use Rattle.bk_inspect.specs.Reading.{OnlyReads}
use Rattle.bk_inspect.proofs.Outlines.{Outlined}
use Rattle.bk_inspect.proofs.quick.show_quick.Given as goal

abbrev pub invariant-loop-turns : goal.invariant-loop-turns
invariant-loop-turns g l = record {
  reads : OnlyReads (g.D.LogDisk.honest l.fn.disk) (g.D.LogDisk.files l.fn.disk) (g.D.LogDisk.honest l.disk) (g.D.LogDisk.files l.disk);
  bound : l.status ≤ 1;
  lines : IsTrue (g.D.LogDisk.honest l.fn.disk)
      → Outlined (g.D.LogDisk.files l.fn.disk) l.turns.ids.items l.turns.at l.turns.is_missing l.status
      (followed l.fn.form (g.W.Write.contents l.fn.writer)) (followed l.fn.form (g.W.Write.contents l.writer));
}

abbrev pub decreases-loop-turns : goal.decreases-loop-turns
decreases-loop-turns g l = l.turns.left
