use Rattle.std.proofs.Common.{◌≡◌, ◌+◌, ◌-◌, ◌≤◌, ◌++◌, vec_len, vec_capacity}
use Rattle.bk_index.specs.Runs.{cells_of_run}
use Rattle.bk_index.proofs.page.packed.runs.append.Given as goal

-- the cells of the first keys of the run are added, and there is room for the others
abbrev pub invariant-loop-done : goal.invariant-loop-done
invariant-loop-done l = record {
  items : l.cells.items ≡ l.fn.cells.items ++ cells_of_run l.offset l.fn.place l.size l.done;
  room : vec_len l.cells + (l.count - l.done) ≤ vec_capacity l.cells;
}
