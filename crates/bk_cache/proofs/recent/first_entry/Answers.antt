use Rattle.std.proofs.Common.{slice_get, ap}
use Rattle.bk_cache.proofs.RecentPairs.{none_first, other_first}
use Rattle.bk_cache.proofs.recent.first_entry.Goals as goal

pub returns-in_err-first-clause-none : goal.returns-in_err-first-clause-none
returns-in_err-first-clause-none c =
    rw c.from_residual.ensures (none_first c.args.pairs.now c.range.result c.args.ledger (c.range.ensures.in_range tt) c.in_err-first.ensures.steps.0)

pub returns-else-first-ledger-clause-none : goal.returns-else-first-ledger-clause-none
returns-else-first-ledger-clause-none c =
    other_first c.args.pairs.now c.range.result c.args.ledger (c.range.ensures.in_range tt) _ (ap (λ ks. slice_get ks 0) c.in_ok-first.ensures.steps)
    c.if-first-ledger.false
