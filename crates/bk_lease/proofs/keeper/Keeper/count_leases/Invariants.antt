use Rattle.std.proofs.Common.{◌≡◌}
use Rattle.bk_lease.proofs.LeaseCounts.{CountsBelow}
use Rattle.bk_lease.proofs.keeper.Keeper.count_leases.Given as goal

abbrev pub invariant-loop-slot : goal.invariant-loop-slot
invariant-loop-slot l = record {
  unchanged : l.self ≡ l.fn.self;
  below : CountsBelow l.fn.self l.slot l.total;
}
