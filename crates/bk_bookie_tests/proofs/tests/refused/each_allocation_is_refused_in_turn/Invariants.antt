use Rattle.std.specs.Prelude.{true}
use Rattle.bk_bookie_tests.proofs.tests.refused.each_allocation_is_refused_in_turn.Given as goal

abbrev pub ghosts-run-L-Ledger : goal.ghosts-run-L-Ledger
ghosts-run-L-Ledger g a = record { name = a.blank.name; parts = a.blank.parts }

abbrev pub ghosts-run-L-AddLedger : goal.ghosts-run-L-AddLedger
ghosts-run-L-AddLedger g a = record { honest = true }
