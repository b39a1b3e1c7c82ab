use Rattle.bk_index.proofs.PackedPairs.{cells_find}
use Rattle.bk_index.proofs.page.packed.Packed.location.Goals as goal

pub returns-clause-value : goal.returns-clause-value
returns-clause-value c = λ key here.
    let page = c.self.inside in
    let at = rw (← c.self.view_is) at here in
    rw (← c.self.view_is) (cells_find page.ledger page.base page.cells.items c.self.invariant.2 key c.args.place c.index.result.now at c.index.ensures)
