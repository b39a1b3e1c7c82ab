use Rattle.std.proofs.Common.{sym, arith}
use Rattle.bk_index.proofs.PackedPairs.{own_all, own_none}
use Rattle.bk_index.proofs.page.packed.Packed.of_ledger.Goals as goal

pub returns-then-self-ledger : goal.returns-then-self-ledger
returns-then-self-ledger c =
    let page = c.self.inside in
    rw (c.pairs.ensures, ← c.self.view_is) (sym (own_all page.ledger page.base page.cells.items c.args.ledger (omega (arith, c.if-self-ledger.true))))

pub returns-else-self-ledger : goal.returns-else-self-ledger
returns-else-self-ledger c =
    let page = c.self.inside in
    rw (c.empty.ensures, ← c.self.view_is) (sym (own_none page.ledger page.base page.cells.items c.args.ledger (omega (arith, c.if-self-ledger.false))))
