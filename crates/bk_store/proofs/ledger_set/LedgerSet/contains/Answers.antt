use Rattle.std.proofs.Common.{sym, ap, ◌∙◌}
use Rattle.std.specs.Cmp.{nat_cmp_total}
use Rattle.std.specs.FinSet as set
use Rattle.bk_store.proofs.ledger_set.LedgerSet.contains.Goals as goal

pub returns : goal.returns
returns c =
    c.contains.ensures ∙ sym (set.contains-from_list nat_cmp_total c.self.inside.ledgers.keys c.args.ledger)
    ∙ ap (λ dead. set.contains dead c.args.ledger) c.self.view_is
