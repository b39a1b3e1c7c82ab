use Rattle.std.proofs.Common.{◌≡◌, ◌++◌}
use Rattle.bk_deleted.specs.Deleting.{not_live}
use Rattle.bk_deleted.proofs.deleted.add_dead.Given as goal

abbrev pub invariant-loop-ledger : goal.invariant-loop-ledger
invariant-loop-ledger l = l.named.items ++ not_live l.live l.ledger-iterator ≡ l.initial.named.items ++ not_live l.live l.ledgers.keys
