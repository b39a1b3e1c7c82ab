use Rattle.std.proofs.Common.{arith}
use Rattle.bk_drive.proofs.Closing.{open_leases, open_shut, open_unread, open_lets_go, met_table, met_closed, left_leases, left_shut, left_lets_go, left_unread}
use Rattle.bk_drive.proofs.run.work_on.Goals as goal

pub returns-in_default-clause-leases : goal.returns-in_default-clause-leases
returns-in_default-clause-leases g c = open_leases _ _ _ _ c.reveal_invariant.ensures c.apply-answer.ensures.transition c.apply-answer.ensures.frame c.apply-answer.ensures.slots c.in_default.ensures.none _ c.requires

pub returns-in_default-clause-unread : goal.returns-in_default-clause-unread
returns-in_default-clause-unread g c = open_unread _ _ _ _ c.reveal_invariant.ensures c.apply-answer.ensures.transition c.apply-answer.ensures.frame c.apply-answer.ensures.slots c.in_default.ensures.none _ c.requires

pub returns-in_default-clause-closes : goal.returns-in_default-clause-closes
returns-in_default-clause-closes g c = open_lets_go _ _ _ _ c.reveal_invariant.ensures c.apply-answer.ensures.transition c.apply-answer.ensures.frame c.apply-answer.ensures.slots c.in_default.ensures.none _ c.requires

pub returns-in_default-clause-closed : goal.returns-in_default-clause-closed
returns-in_default-clause-closed g c = open_shut _ _ _ _ c.reveal_invariant.ensures c.apply-answer.ensures.transition c.apply-answer.ensures.frame c.apply-answer.ensures.slots c.in_default.ensures.none _ c.requires

pub meet_reader-requires-after_bounds : goal.meet_reader-requires-after_bounds
meet_reader-requires-after_bounds g c κs within = (
  omega arith,
  (
    met_table _ _ _ _ _ c.reveal_invariant.ensures c.apply-answer.ensures.transition c.apply-answer.ensures.frame c.in-Some.ensures.some _ c.requires,
    met_closed _ _ _ _ _ c.reveal_invariant.ensures c.apply-answer.ensures.transition c.apply-answer.ensures.frame c.in-Some.ensures.some _ c.requires,
  ),
)

pub returns-clause-leases : goal.returns-clause-leases
returns-clause-leases g c = rw (c.meet_reader.ensures.store, c.meet_reader.ensures.readers)
    (left_leases _ _ _ _ _ c.reveal_invariant.ensures c.apply-answer.ensures.transition c.apply-answer.ensures.frame c.in-Some.ensures.some _ c.requires c.meet_reader.ensures.unread)

pub returns-clause-unread : goal.returns-clause-unread
returns-clause-unread g c =
    left_unread _ _ _ _ _ c.reveal_invariant.ensures c.apply-answer.ensures.transition c.apply-answer.ensures.frame c.in-Some.ensures.some _ c.requires c.meet_reader.ensures.unread

pub returns-clause-closes : goal.returns-clause-closes
returns-clause-closes g c = rw c.meet_reader.ensures.store
    (left_lets_go _ _ _ _ _ c.reveal_invariant.ensures c.apply-answer.ensures.transition c.apply-answer.ensures.frame c.in-Some.ensures.some _ c.requires)

pub returns-clause-closed : goal.returns-clause-closed
returns-clause-closed g c = rw c.meet_reader.ensures.store
    (left_shut _ _ _ _ _ c.reveal_invariant.ensures c.apply-answer.ensures.transition c.apply-answer.ensures.frame c.in-Some.ensures.some _ c.requires)
