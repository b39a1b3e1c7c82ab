use Rattle.std.proofs.Common.{rules}
use Rattle.bk_lease.proofs.LeaseSteps.{releases}
use Rattle.bk_lease.proofs.seat.LeaseSeat.spend.Goals as goal

pub fetch_sub-requires : goal.fetch_sub-requires
fetch_sub-requires c = (search rules, search rules, releases _ _ _ _ (search rules))
