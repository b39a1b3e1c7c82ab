use Rattle.std.proofs.Common.{◌≤◌, IsTrue, []}
use Rattle.bk_inspect.specs.Reading.{OnlyReads}
use Rattle.bk_inspect.proofs.Walks.{Walked}
use Rattle.bk_inspect.proofs.walk.take_in_logs.Given as goal

abbrev pub invariant-loop-turns : goal.invariant-loop-turns
invariant-loop-turns g l = record {
  reads : OnlyReads (g.D.LogDisk.honest l.fn.disk) (g.D.LogDisk.files l.fn.disk) (g.D.LogDisk.honest l.disk) (g.D.LogDisk.files l.disk);
  bound : l.status ≤ 1;
  walked : IsTrue (g.D.LogDisk.honest l.fn.disk)
      → Walked (g.D.LogDisk.files l.fn.disk) l.turns.ids.items l.turns.at l.turns.is_missing l.status
      (λ taken. (first : g.row.T.Denot) → g.T.TakesEntries.has first l.fn.taking [] → g.T.TakesEntries.has first l.taking taken);
}

abbrev pub decreases-loop-turns : goal.decreases-loop-turns
decreases-loop-turns g l = l.turns.left
