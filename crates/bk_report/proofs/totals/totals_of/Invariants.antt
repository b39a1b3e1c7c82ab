use Rattle.std.proofs.Common.{take}
use Rattle.bk_report.specs.Totals.{IsTotals}
use Rattle.bk_report.proofs.totals.totals_of.Given as goal

abbrev pub invariant-loop-row : goal.invariant-loop-row
invariant-loop-row l = IsTotals (take l.row-index l.rows) l.totals
