use Rattle.std.specs.Prelude.{true}
use Rattle.bk_bookie_tests.proofs.tests.strangers.receipts_of_other_bookies_say_what_stands_at_a_number.Given as goal

abbrev pub ghosts-first_receipt-L-Ledger : goal.ghosts-first_receipt-L-Ledger
ghosts-first_receipt-L-Ledger g a = record { name = a.blank.name; parts = a.blank.parts }

abbrev pub ghosts-first_receipt-L-AddLedger : goal.ghosts-first_receipt-L-AddLedger
ghosts-first_receipt-L-AddLedger g a = record { honest = true }

abbrev pub ghosts-run-L-Ledger : goal.ghosts-run-L-Ledger
ghosts-run-L-Ledger g a = record { name = a.blank.name; parts = a.blank.parts }

abbrev pub ghosts-run-L-AddLedger : goal.ghosts-run-L-AddLedger
ghosts-run-L-AddLedger g a = record { honest = true }
