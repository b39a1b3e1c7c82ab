use Rattle.std.proofs.Common.{◌≤◌, ◌-◌, List, take, drop, IsTrue}
use Rattle.std.specs.Io.KnownBytes.{Appends}
use Rattle.bk_inspect.proofs.export.write_record.Given as goal

abbrev pub invariant-loop-done : goal.invariant-loop-done
invariant-loop-done g l = record {
  within : l.done ≤ l.size;
  wrote : IsTrue (g.V.LogView.honest l.view) → Appends (g.W.Write.contents l.fn.writer) (g.W.Write.contents l.writer)
      (take l.done (drop l.begin (g.V.LogView.bytes l.view)));
}

abbrev pub decreases-loop-done : goal.decreases-loop-done
decreases-loop-done g l = l.size - l.done
