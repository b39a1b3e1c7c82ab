use Rattle.bk_bookie.specs.Receipts.{StandBelow}
use Rattle.bk_bookie.proofs.receipts.first_refused.Given as goal

abbrev pub invariant-loop-receipt : goal.invariant-loop-receipt
invariant-loop-receipt l = StandBelow l.trail l.receipts l.receipt-index
