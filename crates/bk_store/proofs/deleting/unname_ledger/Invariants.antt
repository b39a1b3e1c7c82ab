use Rattle.bk_store.proofs.Unnaming.{Goes}
use Rattle.bk_store.proofs.deleting.unname_ledger.Given as goal

abbrev pub invariant-loop-key : goal.invariant-loop-key
invariant-loop-key l = Goes l.index l.caches l.ledger l.fn.accounts l.accounts l.alone l.key-iterator
