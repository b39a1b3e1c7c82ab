use Rattle.std.proofs.Common.{◌≡◌, length, ◌∙◌, arith}
use Rattle.bk_index.proofs.PackedPlaces.{gap_at_last}
use Rattle.bk_index.proofs.page.packed.Packed.place_for.Goals as goal

pub returns-then-index-offset-clause-absent : goal.returns-then-index-offset-clause-absent
returns-then-index-offset-clause-absent c =
    let page = c.self.inside in
    let count : c.len-count.result ≡ length page.cells.items = c.len-count.ensures ∙ page.cells.ok.0 in
    rw (← c.self.view_is, count)
    (gap_at_last page.ledger page.base page.cells.items c.self.invariant.2 c.args.key.now c.in-Some.offset c.in-Some.ensures.fits c.index.result.now
    (omega (arith, count, c.if-count-gt0.true)) (rw count at c.index.ensures) (omega (arith, c.if-index-offset.true)))
