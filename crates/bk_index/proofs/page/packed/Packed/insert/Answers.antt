use Rattle.std.proofs.Common.{sym, arith}
use Rattle.bk_index.proofs.PagePairs.{is_sorted_put_page}
use Rattle.bk_index.proofs.PackedPairs.{cells_put}
use Rattle.bk_index.proofs.page.packed.Packed.insert.Goals as goal

pub invariant_of-self-in-Some : goal.invariant_of-self-in-Some
invariant_of-self-in-Some c =
    let page = c.self.inside in
    let gap = rw (← c.self.view_is) at c.requires in
    let is = cells_put page.ledger page.base page.cells.items c.self.invariant.2 c.args.key.now c.args.place gap c.in-Some.offset c.in-Some.ensures.fits
    c.args.location in (
      c.self.invariant.0,
      c.self.invariant.1,
      rw (c.in_ok-insert-in-Some.ensures.items, ← is) (is_sorted_put_page _ c.self.invariant.2 c.args.key.now c.args.location),
      λ known. absurd (omega (arith, known)),
    )

pub returns-in_ok-insert-in-Some-clause-ok : goal.returns-in_ok-insert-in-Some-clause-ok
returns-in_ok-insert-in-Some-clause-ok c =
    let page = c.self.inside in
    let gap = rw (← c.self.view_is) at c.requires in
    let is = cells_put page.ledger page.base page.cells.items c.self.invariant.2 c.args.key.now c.args.place gap c.in-Some.offset c.in-Some.ensures.fits
    c.args.location in
    rw (c.in_ok-insert-in-Some.ensures.items, ← c.self.view_is) (sym is)
