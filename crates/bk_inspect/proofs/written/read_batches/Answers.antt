use Rattle.std.proofs.Common.{ℕ, ◌*◌, ◌+◌, ◌-◌, ◌≤◌, List, length, take, drop, sym, ap, ◌∙◌, subst, arith, length-drop}
use Rattle.std.proofs.lemmas.Result.{err_from_is_err_and}
use Rattle.std.specs.FinMap.{from_entries}
use Rattle.std.proofs.Common.{nat_cmp}
use Rattle.bk_head.specs.Ledgers.{map_of}
use Rattle.bk_head.specs.Faults.{HasPairs}
use Rattle.bk_head.proofs.Batching.{spells_nothing}
use Rattle.bk_inspect.specs.Maps.{SpellsNoMap}
use Rattle.bk_inspect.proofs.Lost.{add_lost, batch_lost, if_always}
use Rattle.bk_inspect.proofs.Maps.{head_shown, batch_more}
use Rattle.bk_inspect.proofs.written.read_batches.Goals as goal

pub loop-at-init : goal.loop-at-init
loop-at-init g c = (
  omega arith,
  λ honest. spells_nothing (map_of c.new-map.result) (ap (λ (es : List (ℕ × ℕ)). from_entries {R = nat_cmp} es) c.new-map.ensures.empty),
)

pub loop-at-preserved : goal.loop-at-preserved
loop-at-preserved g c =
    let count = c.from-count.result in
    let at = c.loop-at.at in
    let left = c.args.length - at in
    let fits : 24 + 16 * count ≤ left = omega (arith, c.in_ok-pairs_in_batch.ensures.fits, c.from-count.ensures) in (
      omega (arith, fits, c.loop-at-test.true),
      λ honest.
          let file = g.V.LogView.bytes c.args.view.now in
          let end = c.requires.end honest in
          let some = c.loop-at-test.true in
          let head = ap (λ k. take k (drop (c.args.offset + at) file)) c.min.ensures in
          let shown = head_shown file c.deref.result.now c.args.offset at left (omega (arith, end, some)) (omega (arith, some)) c.requires.headed
          (c.deref.ensures.value ∙ (c.in_ok-head.ensures.ok honest).1 ∙ head) in
          let here = drop at (drop c.args.offset file) in
          let has = c.in_ok-pairs_in_batch.ensures.ok here shown in
          batch_more file c.args.offset at left count (map_of c.loop-at.map) (map_of c.add_batch.new.map) (omega (arith, end, some)) (omega (arith, some))
          c.requires.headed fits (c.loop-at.invariant.1 honest) (subst (λ k. HasPairs here (take (16 * k) (drop 24 here))) (sym c.from-count.ensures) has)
          (c.in_ok-add_batch.ensures.ok honest),
    )

pub returns-in_err-pairs_in_batch-clause-err : goal.returns-in_err-pairs_in_batch-clause-err
returns-in_err-pairs_in_batch-clause-err g c = λ honest.
    let file = g.V.LogView.bytes c.args.view.now in
    let offset = c.args.offset in
    let tail = drop offset file in
    let at = c.loop-at.at in
    let left = c.args.length - at in
    let end = c.requires.end honest in
    let some = c.loop-at-test.true in
    let head = ap (λ k. take k (drop (offset + at) file)) c.min.ensures in
    let shown = head_shown file c.deref.result.now offset at left (omega (arith, end, some)) (omega (arith, some)) c.requires.headed
    (c.deref.ensures.value ∙ (c.in_ok-head.ensures.ok honest).1 ∙ head) in
    let s = c.loop-at.invariant.1 honest in
    let within : at ≤ length tail = omega (arith, end, some, c.requires.headed, length-drop offset file) in
    let p = err_from_is_err_and c.from_residual-in_err-pairs_in_batch.result c.from_residual-in_err-pairs_in_batch.ensures.1 in
    rw p.1 (if_always p.0 (SpellsNoMap tail) (batch_lost offset at tail (map_of c.loop-at.map) c.in_err-pairs_in_batch.field-0.0 within s
    (c.in_err-pairs_in_batch.ensures.err (drop at tail) shown s.pairs)))

pub returns-in_err-add_batch-clause-err : goal.returns-in_err-add_batch-clause-err
returns-in_err-add_batch-clause-err g c = λ honest.
    let file = g.V.LogView.bytes c.args.view.now in
    let offset = c.args.offset in
    let tail = drop offset file in
    let at = c.loop-at.at in
    let left = c.args.length - at in
    let count = c.from-count.result in
    let end = c.requires.end honest in
    let some = c.loop-at-test.true in
    let head = ap (λ k. take k (drop (offset + at) file)) c.min.ensures in
    let shown = head_shown file c.deref.result.now offset at left (omega (arith, end, some)) (omega (arith, some)) c.requires.headed
    (c.deref.ensures.value ∙ (c.in_ok-head.ensures.ok honest).1 ∙ head) in
    let here = drop at tail in
    let has = subst (λ k. HasPairs here (take (16 * k) (drop 24 here))) (sym c.from-count.ensures) (c.in_ok-pairs_in_batch.ensures.ok here shown) in
    let s = c.loop-at.invariant.1 honest in
    let within : at ≤ length tail = omega (arith, end, some, c.requires.headed, length-drop offset file) in
    let p = err_from_is_err_and c.from_residual-in_err-add_batch.result c.from_residual-in_err-add_batch.ensures.1 in
    rw (p.1, p.2) (add_lost file offset at count (map_of c.loop-at.map) c.in_err-add_batch.field-0.0 within s has
    (c.in_err-add_batch.ensures.err honest s.pairs s.distinct s.map_is))
