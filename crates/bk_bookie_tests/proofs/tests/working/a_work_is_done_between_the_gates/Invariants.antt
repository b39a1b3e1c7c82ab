use Rattle.std.specs.Prelude.{true}
use Rattle.bk_bookie_tests.proofs.tests.working.a_work_is_done_between_the_gates.Given as goal

abbrev pub ghosts-run_watched-L-Ledger : goal.ghosts-run_watched-L-Ledger
ghosts-run_watched-L-Ledger g a = record { name = a.blank.name; parts = a.blank.parts }

abbrev pub ghosts-run_watched-L-AddLedger : goal.ghosts-run_watched-L-AddLedger
ghosts-run_watched-L-AddLedger g a = record { honest = true }
