use Rattle.std.proofs.Common.{◌≤◌, ◌-◌, ℕ, List, ◌++◌, take, drop, IsTrue}
use Rattle.bk_crc.specs.declared.polynomial.Polynomial.{Polynomial}
use Rattle.bk_crc.specs.Holds.{Holds}
use Rattle.bk_inspect.proofs.fitting.add_part.Given as goal

abbrev pub invariant-loop-done : goal.invariant-loop-done
invariant-loop-done g l = record {
  within : l.done ≤ l.size;
  holds : IsTrue (g.V.LogView.honest l.view) → (polynomial : Polynomial) (message : List ℕ) → Holds polynomial l.fn.checksum message
      → Holds polynomial l.checksum (message ++ take l.done (drop l.from (g.V.LogView.bytes l.view)));
}

abbrev pub decreases-loop-done : goal.decreases-loop-done
decreases-loop-done g l = l.size - l.done
