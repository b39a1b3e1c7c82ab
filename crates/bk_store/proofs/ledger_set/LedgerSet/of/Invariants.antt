use Rattle.std.proofs.Common.{◌≡◌, take}
use Rattle.std.specs.FinSet as set
use Rattle.bk_store.specs.Transitions.{valid_ledgers}
use Rattle.bk_store.proofs.ledger_set.LedgerSet.of.Given as goal

abbrev pub invariant-loop-ledger : goal.invariant-loop-ledger
invariant-loop-ledger l = set.from_list l.ledgers.keys ≡ valid_ledgers (take l.ledger-index l.listed)
