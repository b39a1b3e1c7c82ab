use Rattle.std.proofs.Common.{ap, rules}
use Rattle.bk_store.proofs.Unnaming.{left_behind}
use Rattle.bk_store.proofs.fields.Fields.delete.Goals as goal

pub returns-clause-internals : goal.returns-clause-internals
returns-clause-internals g c = (
  left_behind c.self.inside.index c.drop_ledger.new.self c.args.ledger c.args.self.now.accounts c.self.inside.accounts c.unname_ledger-indexed.new.accounts
      c.forget.new.self (ap (λ p. p.accounts) c.self.view_is) c.unname_ledger-indexed.ensures.named c.forget.ensures c.drop_ledger.ensures.left,
  search rules,
)
