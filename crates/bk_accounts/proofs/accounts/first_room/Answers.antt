use Rattle.std.proofs.Common.{slice_get, ap}
use Rattle.bk_accounts.proofs.Listings.{from_least, other_first}
use Rattle.bk_accounts.proofs.accounts.first_room.Goals as goal

pub returns-in_err-first-clause-none : goal.returns-in_err-first-clause-none
returns-in_err-first-clause-none c =
    rw c.from_residual.ensures (λ log. (c.range.ensures.in_range tt).5 c.in_err-first.ensures.steps.0 (c.args.ledger, log)
    (from_least c.args.ledger log, tt))

pub returns-else-first-ledger-clause-none : goal.returns-else-first-ledger-clause-none
returns-else-first-ledger-clause-none c =
    other_first c.args.rooms.now c.range.result _ c.args.ledger (c.range.ensures.in_range tt) (ap (λ ks. slice_get ks 0) c.in_ok-first.ensures.steps)
    c.if-first-ledger.false
