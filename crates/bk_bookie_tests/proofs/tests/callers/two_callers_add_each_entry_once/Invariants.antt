use Rattle.std.specs.Prelude.{true}
use Rattle.bk_bookie_tests.proofs.tests.callers.two_callers_add_each_entry_once.Given as goal

abbrev pub ghosts-run-L-Ledger : goal.ghosts-run-L-Ledger
ghosts-run-L-Ledger g a = record { name = a.blank.name; parts = a.blank.parts }

abbrev pub ghosts-run-L-AddLedger : goal.ghosts-run-L-AddLedger
ghosts-run-L-AddLedger g a = record { honest = true }
