use Rattle.bk_hint.specs.Runs.{entries_of_runs}
use Rattle.bk_hint.proofs.Adding.{Adds}
use Rattle.bk_hint.proofs.Runwise.{LegalRuns}
use Rattle.bk_hint.proofs.sums.sums_by_ledger.Given as goal

abbrev pub invariant-loop-run : goal.invariant-loop-run
invariant-loop-run l = record { adds : Adds l.sums (entries_of_runs l.run-iterator) l.contents; legal : LegalRuns l.run-iterator }
