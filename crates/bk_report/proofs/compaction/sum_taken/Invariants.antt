use Rattle.std.proofs.Common.{◌≡◌, take}
use Rattle.bk_report.specs.Compaction.{sum_taken_of}
use Rattle.bk_report.proofs.compaction.sum_taken.Given as goal

abbrev pub invariant-loop-row : goal.invariant-loop-row
invariant-loop-row l = l.sum ≡ sum_taken_of l.amount l.threshold (take l.row-index l.rows)
