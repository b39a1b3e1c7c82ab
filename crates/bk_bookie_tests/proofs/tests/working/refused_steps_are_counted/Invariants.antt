use Rattle.std.specs.Prelude.{true}
use Rattle.bk_bookie_tests.proofs.tests.working.refused_steps_are_counted.Given as goal

abbrev pub ghosts-run_refused-L-Ledger : goal.ghosts-run_refused-L-Ledger
ghosts-run_refused-L-Ledger g a = record { name = a.blank.name; parts = a.blank.parts }

abbrev pub ghosts-run_refused-L-AddLedger : goal.ghosts-run_refused-L-AddLedger
ghosts-run_refused-L-AddLedger g a = record { honest = true }
