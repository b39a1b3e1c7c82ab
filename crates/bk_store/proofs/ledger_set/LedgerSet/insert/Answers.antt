use Rattle.std.proofs.Common.{ap, ◌∙◌}
use Rattle.std.specs.FinSet as set
use Rattle.bk_store.proofs.Ledgers.{ledgers-insert}
use Rattle.bk_store.proofs.ledger_set.LedgerSet.insert.Goals as goal

pub returns-clause-ok : goal.returns-clause-ok
returns-clause-ok c =
    ledgers-insert c.self.inside.ledgers c.insert.new.self c.args.ledger c.in_ok-insert.ensures.updates
    ∙ ap (λ dead. set.insert dead c.args.ledger) c.self.view_is
