use Rattle.std.proofs.Common.{ℕ, Ok, sym, subst, ◌∙◌, arith}
use Rattle.std.proofs.lemmas.Bool.{false_from_ne_true}
use Rattle.bk_disk.specs.Disk.{AreSound}
use Rattle.bk_compact.specs.Compacting.{CopyTransition}
use Rattle.bk_compact.specs.declared.answer.CopyAnswer.{CopyAnswer}
use Rattle.bk_offline_gc.specs.Stages.{HasCopiedTo}
use Rattle.bk_offline_gc.specs.Sweeping.{SweepFrame}
use Rattle.bk_offline_gc.proofs.Copying.{copying_on, copying_moves, copying_ends}
use Rattle.bk_offline_gc.proofs.Reporting.{odd_disk, step_same}
use Rattle.bk_offline_gc.proofs.compacting.copy_all.Goals as goal

pub returns-then-next-at-clause-cause : goal.returns-then-next-at-clause-cause
returns-then-next-at-clause-cause g c =
    let s = c.args.store.now in
    let t = c.loop-count.store in
    let u = c.copy.new.store in
    let turn = subst (λ (r : CopyAnswer). CopyTransition t 4096 (Ok r) u) c.in-Copied.is c.in_ok-count.ensures.transition in
    odd_disk {T = Unit {0}} (AreSound g.D.View.LogView.sound) s u
    (step_same {T = CopyAnswer} t u c.in_ok-count.field-0 c.in_ok-count.ensures.cause ∙ c.loop-count.invariant.failures)
    (false_from_ne_true s.honest (λ honest.
    copying_moves s t u c.loop-count.at c.in-Copied.count 4096 c.loop-count.invariant turn (omega arith) c.in-Some.job.now (sym c.in-Some.ensures)
    (omega (arith, c.if-next-at.true, c.at-next.ensures)) (c.loop-count.invariant.frame.meaning.honest ∙ honest)))

pub loop-count-preserved : goal.loop-count-preserved
loop-count-preserved g c =
    let s = c.args.store.now in
    let t = c.loop-count.store in
    let u = c.copy.new.store in
    let turn = subst (λ (r : CopyAnswer). CopyTransition t 4096 (Ok r) u) c.in-Copied.is c.in_ok-count.ensures.transition in
    let frame : SweepFrame t u = record {
      stays = c.copy.ensures.frame.0;
      caches = c.copy.ensures.frame.1;
      meaning = record { honest = c.copy.ensures.honest; meaning = c.copy.ensures.contents };
    } in
    subst (λ (n : ℕ). HasCopiedTo s n u) (sym c.at-next.ensures)
    (copying_on s t u c.loop-count.at c.in-Copied.count 4096 c.loop-count.invariant turn frame
    (step_same {T = CopyAnswer} t u c.in_ok-count.field-0 c.in_ok-count.ensures.cause) c.in-Some.job.now (sym c.in-Some.ensures))

pub returns-in-AtEnd-clause-ok : goal.returns-in-AtEnd-clause-ok
returns-in-AtEnd-clause-ok g c =
    let t = c.loop-count.store in
    let u = c.copy.new.store in
    let turn = subst (λ (r : CopyAnswer). CopyTransition t 4096 (Ok r) u) c.in-AtEnd.is c.in_ok-count.ensures.transition in
    copying_ends c.args.store.now t u c.loop-count.at 4096 c.loop-count.invariant turn
