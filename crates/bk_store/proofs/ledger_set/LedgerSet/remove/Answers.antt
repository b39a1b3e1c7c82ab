use Rattle.std.proofs.Common.{ap, ◌∙◌}
use Rattle.std.specs.FinSet as set
use Rattle.bk_store.proofs.Ledgers.{ledgers-remove}
use Rattle.bk_store.proofs.ledger_set.LedgerSet.remove.Goals as goal

pub returns : goal.returns
returns c =
    ledgers-remove c.self.inside.ledgers c.remove.new.self c.args.ledger c.remove.ensures.updates
    ∙ ap (λ ledgers. set.remove ledgers c.args.ledger) c.self.view_is
