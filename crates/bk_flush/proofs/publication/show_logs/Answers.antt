use Rattle.std.proofs.Common.{◌+◌, Some, sym, ap, subst, arith}
use Rattle.std.specs.FinMap as finite
use Rattle.bk_store.specs.Primitives.{CanPublishLog}
use Rattle.bk_flush.proofs.NextLogs.{IsNextLog, past_end, one_past, next_placed, none_left}
use Rattle.bk_flush.proofs.ShownLogs.{may_show, one_more, not_shown, refused_stays, all_shown, shows_whole, same_places, same_entry}
use Rattle.bk_flush.proofs.publication.show_logs.Goals as goal

pub unreachable-requires : goal.unreachable-requires
unreachable-requires g c =
    let past = past_end (finite.entries c.loop-number.store.places) c.loop-number.number (sym c.in_default.ensures.value) in
    let long = finite.len-entries c.loop-number.store.places in
    let same = ap finite.len (same_places c.args.store.now c.loop-number.store c.loop-number.from c.loop-number.invariant.0) in
    let within = c.loop-number-test.true in
    let end = c.placed_len-number-end.ensures in
    absurd (omega (arith, past, long, same, within, end))

pub publish_log-requires-after_bounds : goal.publish_log-requires-after_bounds
publish_log-requires-after_bounds g c = λ κs within.
    subst (CanPublishLog c.loop-number.store) (sym c.log-log.ensures.value)
    (may_show c.loop-number.store _ c.reveal_invariant-in-loop-number.ensures c.in-Some.ensures.log)

pub returns-in-Err-clause-transition : goal.returns-in-Err-clause-transition
returns-in-Err-clause-transition g c =
    let s = c.args.store.now in
    let is = c.loop-number.invariant.0 in
    let at = same_entry s c.loop-number.store c.loop-number.from is c.loop-number.number _ (sym c.in-Some.ensures.value) in
    let above = c.if-log-from.false in
    let log = c.log-log.ensures.value in
    let next = next_placed s c.reveal_invariant.ensures c.loop-number.number c.loop-number.from _ c.loop-number.invariant.1 at (omega (arith, above, log)) in
    not_shown s c.loop-number.store c.loop-number.from is c.log-log.result (subst (λ n. IsNextLog s c.loop-number.from (Some n)) (sym log) next)
    c.in-Err.fault c.publish_fault.result c.publish_log.new.self c.publish_fault.new.store c.in-Err.ensures.transition c.publish_fault.ensures.value
    c.publish_fault.ensures.left

pub returns-in-Err-clause-frame : goal.returns-in-Err-clause-frame
returns-in-Err-clause-frame g c =
    refused_stays c.args.store.now c.loop-number.store c.loop-number.from c.loop-number.invariant.0 c.log-log.result c.in-Err.fault c.publish_log.new.self
    c.publish_fault.new.store c.in-Err.ensures.transition c.in-Err.ensures.contents c.publish_fault.ensures.frame

pub loop-number-preserved : goal.loop-number-preserved
loop-number-preserved g c =
    let s = c.args.store.now in
    let is = c.loop-number.invariant.0 in
    let at = same_entry s c.loop-number.store c.loop-number.from is c.loop-number.number _ (sym c.in-Some.ensures.value) in
    let above = c.if-log-from.false in
    let log = c.log-log.ensures.value in
    let next = next_placed s c.reveal_invariant.ensures c.loop-number.number c.loop-number.from _ c.loop-number.invariant.1 at (omega (arith, above, log)) in (
      one_more s c.loop-number.store c.loop-number.from is c.log-log.result (subst (λ n. IsNextLog s c.loop-number.from (Some n)) (sym log) next)
          c.publish_log.new.self c.in_default-publish_log.ensures.transition c.in_default-publish_log.ensures.contents,
      one_past (finite.entries s.places) c.loop-number.number c.loop-number.from (c.log-log.result + 1) _ c.loop-number.invariant.1 at
          (omega (arith, log)) (omega (arith, above)),
    )

pub returns-clause-transition : goal.returns-clause-transition
returns-clause-transition g c =
    let s = c.args.store.now in
    let past = c.loop-number-test.false in
    let end = c.placed_len-number-end.ensures in
    all_shown s c.loop-number.store c.loop-number.from c.loop-number.invariant.0
    (none_left s c.loop-number.number c.loop-number.from (omega (arith, past, end)) c.loop-number.invariant.1)

pub returns-clause-shown : goal.returns-clause-shown
returns-clause-shown g c =
    let s = c.args.store.now in
    let past = c.loop-number-test.false in
    let end = c.placed_len-number-end.ensures in
    shows_whole s c.loop-number.store c.loop-number.from c.loop-number.invariant.0
    (none_left s c.loop-number.number c.loop-number.from (omega (arith, past, end)) c.loop-number.invariant.1) c.reveal_invariant.ensures
