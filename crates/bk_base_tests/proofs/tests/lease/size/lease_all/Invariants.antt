use Rattle.std.proofs.Common.{◌≡◌}
use Rattle.bk_base_tests.proofs.tests.lease.size.lease_all.Given as goal

abbrev pub invariant-loop : goal.invariant-loop
invariant-loop l = l.keeper.slots ≡ l.initial.keeper.slots
