use Rattle.std.specs.Prelude.{true}
use Rattle.bk_bench_threads.proofs.main.Given as goal

abbrev pub ghosts-serve-L-Ledger : goal.ghosts-serve-L-Ledger
ghosts-serve-L-Ledger g a = record { name = a.blank.name; parts = a.blank.parts }

abbrev pub ghosts-serve-L-AddLedger : goal.ghosts-serve-L-AddLedger
ghosts-serve-L-AddLedger g a = record { honest = true }
