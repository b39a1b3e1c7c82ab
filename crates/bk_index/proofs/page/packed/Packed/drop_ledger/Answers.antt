use Rattle.std.proofs.Common.{sym, arith}
use Rattle.bk_index.proofs.PackedPairs.{rest_all, rest_none}
use Rattle.bk_index.proofs.page.packed.Packed.drop_ledger.Goals as goal

pub returns-then-self-ledger-clause-left : goal.returns-then-self-ledger-clause-left
returns-then-self-ledger-clause-left c =
    let page = c.self.inside in
    rw (← c.self.view_is) (sym (rest_all page.ledger page.base page.cells.items c.args.ledger (omega (arith, c.if-self-ledger.true))))

pub returns-clause-left : goal.returns-clause-left
returns-clause-left c =
    let page = c.self.inside in
    rw (c.clear.ensures.items, ← c.self.view_is)
    (sym (rest_none page.ledger page.base page.cells.items c.args.ledger (omega (arith, c.if-self-ledger.false))))
