use Rattle.std.proofs.Common.{◌≡◌, ◌≤◌, take, count_by}
use Rattle.bk_report.specs.Compaction.{is_taken}
use Rattle.bk_report.proofs.compaction.count_taken.Given as goal

abbrev pub invariant-loop-row : goal.invariant-loop-row
invariant-loop-row l = (l.count ≡ count_by (is_taken l.threshold) (take l.row-index l.rows)) × (l.count ≤ l.row-index)
