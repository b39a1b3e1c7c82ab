use Rattle.std.proofs.Common.{◌+◌, true, false, subst, sym, arith}
use Rattle.bk_compact.specs.JobSteps.{Switches}
use Rattle.bk_compact.proofs.Ended.{may_rename}
use Rattle.bk_compact.proofs.Switched.{IsTaking, after_phase, taking_more, taking_stops}
use Rattle.bk_compact.proofs.switching.take_moves.Goals as goal
use Rattle.bk_compact.proofs.switching.take_moves.Goals.{then-relocate, else-relocate}

pub relocate-requires-after_bounds : goal.relocate-requires-after_bounds
relocate-requires-after_bounds g c = λ κs within.
    let inv = c.loop.invariant in
    may_rename c.loop.store c.loop.store c.loop.job c.next_move.new.self c.in-Some.next inv.out
    (after_phase c.args.store.now c.args.job.now c.loop.counter c.loop.moved c.loop.store c.loop.job inv c.requires.switching) c.in-Some.ensures.some

pub loop-preserved : goal.loop-preserved
loop-preserved g c =
    let s = c.args.store.now in
    let job = c.args.job.now in
    let inv = c.loop.invariant in
    elim c.if-relocate.branch [
      | then-relocate w ↦ subst (λ n. IsTaking s job (c.loop.counter + 1) n c.relocate.new.self c.next_move.new.self) (sym w.moved-is)
          (taking_more s job c.loop.counter c.loop.moved c.loop.store c.loop.job inv c.requires.switching c.in-Some.next c.next_move.new.self
          c.in-Some.ensures.some true c.relocate.new.self w.if-relocate.ensures.transition w.if-relocate.ensures.contents)
      | else-relocate w ↦ subst (λ n. IsTaking s job (c.loop.counter + 1) n c.relocate.new.self c.next_move.new.self)
          (let kept = w.moved-is in omega (arith, kept))
          (taking_more s job c.loop.counter c.loop.moved c.loop.store c.loop.job inv c.requires.switching c.in-Some.next c.next_move.new.self
          c.in-Some.ensures.some false c.relocate.new.self w.if-relocate.ensures.transition w.if-relocate.ensures.contents)
    ]

pub returns-in_default-clause-transition : goal.returns-in_default-clause-transition
returns-in_default-clause-transition g c =
    let inv = c.loop.invariant in
    let within = c.loop-test.true in
    subst (λ j. Switches c.args.store.now c.args.job.now c.args.count c.loop.moved c.loop.store j) (sym c.in_default.ensures.none.1)
    (taking_stops c.args.store.now c.args.job.now c.loop.counter c.loop.moved c.loop.store c.loop.job inv c.requires.switching c.args.count
    (omega (arith, within)) c.in_default.ensures.none.0)
