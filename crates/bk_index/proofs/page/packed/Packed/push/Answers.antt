use Rattle.std.proofs.Common.{◌≡◌, length, sym, ◌∙◌, arith}
use Rattle.bk_index.proofs.PagePairs.{find_absent, is_sorted_put_page, on_err}
use Rattle.bk_index.proofs.PackedPlaces.{gap_at_last, put_last}
use Rattle.bk_index.proofs.Logged.{in_log_more}
use Rattle.bk_index.proofs.page.packed.Packed.push.Goals as goal

pub invariant_of-self-2 : goal.invariant_of-self-2
invariant_of-self-2 c =
    let page = c.self.inside in
    let count : c.len-count.result ≡ length page.cells.items = c.len-count.ensures ∙ page.cells.ok.0 in
    let is = put_last page.ledger page.base page.cells.items c.self.invariant.2 c.args.key.now c.in-Some.offset c.in-Some.ensures.fits c.index.result.now
    (omega (arith, count, c.if-count-eq0.false)) (rw count at c.index.ensures) (omega (arith, c.if-index-offset.false)) c.args.location in (
      c.self.invariant.0,
      c.self.invariant.1,
      rw (c.in_ok-push.ensures.items, ← is) (is_sorted_put_page _ c.self.invariant.2 c.args.key.now c.args.location),
      rw c.in_ok-push.ensures.items (in_log_more page.log page.cells.items (c.in-Some.offset, c.args.location) c.self.invariant.3 c.joint-self-inside.result c.joint-self-inside.ensures),
    )

pub returns-clause-pushed : goal.returns-clause-pushed
returns-clause-pushed c =
    let page = c.self.inside in
    let count : c.len-count.result ≡ length page.cells.items = c.len-count.ensures ∙ page.cells.ok.0 in
    let is = put_last page.ledger page.base page.cells.items c.self.invariant.2 c.args.key.now c.in-Some.offset c.in-Some.ensures.fits c.index.result.now
    (omega (arith, count, c.if-count-eq0.false)) (rw count at c.index.ensures) (omega (arith, c.if-index-offset.false)) c.args.location in
    rw (c.in_ok-push.ensures.items, ← c.self.view_is) (sym is)

pub returns-clause-absent : goal.returns-clause-absent
returns-clause-absent c =
    let page = c.self.inside in
    let count : c.len-count.result ≡ length page.cells.items = c.len-count.ensures ∙ page.cells.ok.0 in
    rw (← c.self.view_is)
    (find_absent _ c.self.invariant.2 c.args.key.now _
    (gap_at_last page.ledger page.base page.cells.items c.self.invariant.2 c.args.key.now c.in-Some.offset c.in-Some.ensures.fits c.index.result.now
    (omega (arith, count, c.if-count-eq0.false)) (rw count at c.index.ensures) (omega (arith, c.if-index-offset.false))))

pub returns-in_err-push-clause-failed : goal.returns-in_err-push-clause-failed
returns-in_err-push-clause-failed c =
    let page = c.self.inside in
    let count : c.len-count.result ≡ length page.cells.items = c.len-count.ensures ∙ page.cells.ok.0 in
    on_err c.from_residual.result (rw (← c.self.view_is)
    (find_absent _ c.self.invariant.2 c.args.key.now _
    (gap_at_last page.ledger page.base page.cells.items c.self.invariant.2 c.args.key.now c.in-Some.offset c.in-Some.ensures.fits c.index.result.now
    (omega (arith, count, c.if-count-eq0.false)) (rw count at c.index.ensures) (omega (arith, c.if-index-offset.false)))))
