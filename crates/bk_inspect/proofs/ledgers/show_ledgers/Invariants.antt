use Rattle.bk_inspect.proofs.LedgerLines.{WroteSome}
use Rattle.bk_inspect.specs.Forms.{followed}
use Rattle.bk_inspect.proofs.ledgers.show_ledgers.Given as goal

abbrev pub invariant-loop-ledger : goal.invariant-loop-ledger
invariant-loop-ledger g l = WroteSome l.ledger-iterator l.map.entries (followed l.fn.form (g.W.Write.contents l.fn.writer)) (followed l.fn.form (g.W.Write.contents l.writer))
