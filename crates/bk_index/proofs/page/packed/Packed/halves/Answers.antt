use Rattle.std.proofs.Common.{arith}
use Rattle.bk_index.specs.Packed.{cell_pairs}
use Rattle.bk_index.proofs.PagePairs.{is_sorted_parts}
use Rattle.bk_index.proofs.PackedPairs.{cells_parts}
use Rattle.bk_index.proofs.page.packed.Packed.halves.Goals as goal

pub invariant_of-lower : goal.invariant_of-lower
invariant_of-lower c =
    let page = c.self.inside in
    let gap = rw (← c.self.view_is) at c.requires.gap in
    let all = rw c.deref.ensures.value at c.in_ok-lower.ensures.all in
    let is = cells_parts page.ledger page.base page.cells.items c.self.invariant.2 c.args.key.now c.args.place gap c.in-Some.offset c.in-Some.ensures.fits
    c.args.location c.in_ok-lower.lower.items c.in_ok-lower.upper.items all in (
      c.self.invariant.0,
      c.self.invariant.1,
      (is_sorted_parts (cell_pairs page.ledger page.base page.cells.items) c.self.invariant.2 c.args.key.now c.args.location
          (cell_pairs page.ledger page.base c.in_ok-lower.lower.items) (cell_pairs page.ledger page.base c.in_ok-lower.upper.items) is).0,
      λ known. absurd (omega (arith, known)),
    )

pub invariant_of-upper : goal.invariant_of-upper
invariant_of-upper c =
    let page = c.self.inside in
    let gap = rw (← c.self.view_is) at c.requires.gap in
    let all = rw c.deref.ensures.value at c.in_ok-lower.ensures.all in
    let is = cells_parts page.ledger page.base page.cells.items c.self.invariant.2 c.args.key.now c.args.place gap c.in-Some.offset c.in-Some.ensures.fits
    c.args.location c.in_ok-lower.lower.items c.in_ok-lower.upper.items all in (
      c.self.invariant.0,
      c.self.invariant.1,
      (is_sorted_parts (cell_pairs page.ledger page.base page.cells.items) c.self.invariant.2 c.args.key.now c.args.location
          (cell_pairs page.ledger page.base c.in_ok-lower.lower.items) (cell_pairs page.ledger page.base c.in_ok-lower.upper.items) is).1,
      λ known. absurd (omega (arith, known)),
    )

pub returns-clause-ok : goal.returns-clause-ok
returns-clause-ok c =
    let page = c.self.inside in
    let gap = rw (← c.self.view_is) at c.requires.gap in
    let all = rw c.deref.ensures.value at c.in_ok-lower.ensures.all in
    rw (← c.self.view_is)
    (cells_parts page.ledger page.base page.cells.items c.self.invariant.2 c.args.key.now c.args.place gap c.in-Some.offset c.in-Some.ensures.fits
    c.args.location c.in_ok-lower.lower.items c.in_ok-lower.upper.items all)
