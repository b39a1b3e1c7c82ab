use Rattle.bk_inspect.proofs.LedgerLines.{wrote_more}
use Rattle.bk_inspect.proofs.ledgers.show_ledgers.Goals as goal

pub loop-ledger-preserved : goal.loop-ledger-preserved
loop-ledger-preserved g c =
    wrote_more _ _ _ (c.in-Some.ledger.now, c.in-Some.size.now) _ _ _ c.in-Some.ensures.steps c.loop-ledger.invariant c.in_ok-write_ledger.ensures
