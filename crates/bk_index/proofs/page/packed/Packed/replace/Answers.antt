use Rattle.std.proofs.Common.{sym, arith}
use Rattle.bk_index.proofs.PagePairs.{is_sorted_put_page}
use Rattle.bk_index.proofs.PackedPairs.{cells_find, cells_replace}
use Rattle.bk_index.proofs.page.packed.Packed.replace.Goals as goal

pub invariant_of-self : goal.invariant_of-self
invariant_of-self c =
    let page = c.self.inside in
    let here = rw (← c.self.view_is) at c.requires in
    let is = cells_replace page.ledger page.base page.cells.items c.self.invariant.2 c.args.key c.args.place c.index.result.now here c.index.ensures
    c.args.to in
    (c.self.invariant.0, c.self.invariant.1, rw (← is) (is_sorted_put_page _ c.self.invariant.2 c.args.key c.args.to), λ known. absurd (omega (arith, known)))

pub returns-clause-replaced : goal.returns-clause-replaced
returns-clause-replaced c =
    let page = c.self.inside in
    let here = rw (← c.self.view_is) at c.requires in
    let is = cells_replace page.ledger page.base page.cells.items c.self.invariant.2 c.args.key c.args.place c.index.result.now here c.index.ensures
    c.args.to in
    rw (← c.self.view_is) (sym is)

pub returns-clause-before : goal.returns-clause-before
returns-clause-before c =
    let page = c.self.inside in
    let here = rw (← c.self.view_is) at c.requires in
    rw (← c.self.view_is) (cells_find page.ledger page.base page.cells.items c.self.invariant.2 c.args.key c.args.place c.index.result.now here c.index.ensures)
