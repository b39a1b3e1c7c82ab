use Rattle.std.proofs.Common.{◌≡◌}
use Rattle.bk_base_tests.proofs.tests.lease.threads.counts_only_fall_while_two_threads_give_back.Given as goal

abbrev pub invariant-loop : goal.invariant-loop
invariant-loop g l = l.keeper ≡ l.initial.keeper
