use Rattle.bk_load.proofs.Looking.{IsLooking}
use Rattle.bk_load.proofs.checking.look_up.Given as goal

abbrev pub invariant-loop-receipt : goal.invariant-loop-receipt
invariant-loop-receipt g l = IsLooking l.initial.store l.store l.receipts l.receipt-index l.found l.deleted l.lost
