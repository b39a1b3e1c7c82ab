use Rattle.std.specs.Prelude.{true}
use Rattle.bk_bookie_tests.proofs.tests.durable.entries_below_the_durable_front_are_found_again.Given as goal

abbrev pub ghosts-run-L-Ledger : goal.ghosts-run-L-Ledger
ghosts-run-L-Ledger g a = record { name = a.blank.name; parts = a.blank.parts }

abbrev pub ghosts-run-L-AddLedger : goal.ghosts-run-L-AddLedger
ghosts-run-L-AddLedger g a = record { honest = true }
