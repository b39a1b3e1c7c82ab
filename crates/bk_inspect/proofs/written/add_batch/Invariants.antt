use Rattle.std.proofs.Common.{◌≡◌, ℕ, ◌*◌, ◌-◌, ◌≤◌, IsTrue, List, take, drop}
use Rattle.std.specs.FinMap.{from_entries}
use Rattle.bk_head.specs.Ledgers.{map_of, ledgers_of, AreDistinct}
use Rattle.bk_head.specs.Parts.{AddsPairs}
use Rattle.bk_inspect.proofs.written.add_batch.Given as goal

-- the pairs so far were added
abbrev pub invariant-loop-done : goal.invariant-loop-done
invariant-loop-done g l = (l.done ≤ l.count) × (IsTrue (g.V.LogView.honest l.view) → (before : List (ℕ × ℕ)) → AreDistinct (ledgers_of before)
    → map_of l.fn.map ≡ from_entries before → AddsPairs before (take (16 * l.done) (drop l.from (g.V.LogView.bytes l.view))) (map_of l.map))

abbrev pub decreases-loop-done : goal.decreases-loop-done
decreases-loop-done g l = l.count - l.done
