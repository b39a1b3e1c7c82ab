use Rattle.std.proofs.Common.{◌≡◌, length, ◌∙◌, arith}
use Rattle.bk_index.proofs.Runs.{at_of_fewer}
use Rattle.bk_index.proofs.RunPairs.{cells_before, cells_and_run, length_and_run, is_sorted_and_run}
use Rattle.bk_index.proofs.Logged.{in_log_run}
use Rattle.bk_index.proofs.page.packed.Packed.push_run.Goals as goal

pub append-requires-clause-places : goal.append-requires-clause-places
append-requires-clause-places c =
    at_of_fewer c.args.place.at c.args.size c.args.count c.fitting-number.result c.fitting-number.ensures.bound c.requires

pub invariant_of-self-2 : goal.invariant_of-self-2
invariant_of-self-2 c =
    let page = c.self.inside in
    let count : c.len-len.result ≡ length page.cells.items = c.len-len.ensures ∙ page.cells.ok.0 in
    let before = cells_before page.ledger page.base page.cells.items c.args.key.now c.in-Some.offset c.in-Some.ensures.fits c.self.invariant.2 c.index.result.now
    (omega (arith, count, c.if-len-eq0.false)) (rw count at c.index.ensures) (omega (arith, c.if-index-offset.false)) in (
      c.self.invariant.0,
      c.self.invariant.1,
      rw c.in_ok-append.ensures.ok (is_sorted_and_run page.ledger page.base page.cells.items c.args.key.now c.in-Some.offset c.in-Some.ensures.fits
          c.self.invariant.2 c.args.place c.args.size c.fitting-number.result (λ _. before)),
      rw c.in_ok-append.ensures.ok (in_log_run page.log page.cells.items c.in-Some.offset c.args.place c.args.size c.fitting-number.result c.self.invariant.3
          c.joint-self-inside.result c.joint-self-inside.ensures),
    )

pub returns-clause-pushed : goal.returns-clause-pushed
returns-clause-pushed c =
    let page = c.self.inside in
    rw (c.in_ok-append.ensures.ok, ← c.self.view_is)
    (cells_and_run page.ledger page.base page.cells.items c.args.key.now c.in-Some.offset c.in-Some.ensures.fits c.args.place c.args.size
    c.fitting-number.result)

pub returns-clause-behind : goal.returns-clause-behind
returns-clause-behind c some =
    let page = c.self.inside in
    let count : c.len-len.result ≡ length page.cells.items = c.len-len.ensures ∙ page.cells.ok.0 in
    rw (← c.self.view_is)
    (cells_before page.ledger page.base page.cells.items c.args.key.now c.in-Some.offset c.in-Some.ensures.fits c.self.invariant.2 c.index.result.now
    (omega (arith, count, c.if-len-eq0.false)) (rw count at c.index.ensures) (omega (arith, c.if-index-offset.false)))

pub returns-clause-room : goal.returns-clause-room
returns-clause-room c _ =
    let page = c.self.inside in
    let count : c.len-len.result ≡ length page.cells.items = c.len-len.ensures ∙ page.cells.ok.0 in
    let long = length_and_run page.ledger page.base page.cells.items c.args.key.now c.in-Some.offset c.in-Some.ensures.fits c.args.place c.args.size
    c.fitting-number.result in
    rw c.in_ok-append.ensures.ok (omega (arith, long, count, c.fitting-number.ensures.room))
