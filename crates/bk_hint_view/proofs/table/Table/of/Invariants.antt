use Rattle.std.proofs.Common.{◌≡◌, ◌++◌}
use Rattle.bk_hint.specs.Runs.{entries_of_runs}
use Rattle.bk_hint_view.proofs.table.Table.of.Given as goal

abbrev pub invariant-loop-run : goal.invariant-loop-run
invariant-loop-run l = entries_of_runs (l.rows.items ++ l.run-iterator) ≡ l.contents
