use Rattle.std.proofs.Common.{rules}
use Rattle.bk_lease.proofs.LeaseSteps.{meets}
use Rattle.bk_lease.proofs.seat.LeaseSeat.meet.Goals as goal

pub join_seat-requires : goal.join_seat-requires
join_seat-requires c = (
  search rules,
  search rules,
  search rules,
  search rules,
  meets _ _ _ _ _ _ _ _ c.requires.closed.0
      (search rules) c.requires.closed.2 (search rules),
)
