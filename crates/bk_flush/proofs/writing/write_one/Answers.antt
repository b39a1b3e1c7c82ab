use Rattle.std.proofs.Common.{Ok, Err, sym, ap, subst, ◌∙◌}
use Rattle.std.proofs.lemmas.Result.{err_from_is_err_and}
use Rattle.bk_store.specs.State.{State}
use Rattle.bk_store.specs.Frame.{FrameUnchanged}
use Rattle.bk_store.specs.Primitives.{AppendNextTransition}
use Rattle.bk_flush.specs.Flushing.{WriteOneTransition}
use Rattle.bk_flush.specs.declared.answer.WriteAnswer.TheVariants.{Wrote}
use Rattle.bk_flush.proofs.Steps.{wrote_step, failed_step}
use Rattle.bk_flush.proofs.WriteFrames.{step_still}
use Rattle.bk_flush.proofs.writing.write_one.Goals as goal

pub returns-in_err-append-clause-transition : goal.returns-in_err-append-clause-transition
returns-in_err-append-clause-transition g c =
    let told = err_from_is_err_and c.from_residual.result c.from_residual.ensures.1 in
    subst (λ r. WriteOneTransition c.args.store.now r c.append.new.store) (sym (told.1 ∙ ap Err told.2))
    (failed_step c.args.store.now c.append.new.store _ c.in_err-append.ensures.transition)

pub returns-in_err-append-clause-frame : goal.returns-in_err-append-clause-frame
returns-in_err-append-clause-frame g c =
    step_still c.args.store.now c.append.new.store c.from_residual.result (returns-in_err-append-clause-transition g c)

pub returns-in-At-clause-transition : goal.returns-in-At-clause-transition
returns-in-At-clause-transition g c =
    wrote_step c.args.store.now c.append.new.store c.in-At.location
    (subst (λ a. AppendNextTransition c.args.store.now (Ok a) c.append.new.store) c.in-At.is c.in_ok-append.ensures.transition)

pub returns-in-At-clause-frame : goal.returns-in-At-clause-frame
returns-in-At-clause-frame g c =
    step_still c.args.store.now c.append.new.store (Ok (Wrote c.in-At.location)) (returns-in-At-clause-transition g c)

pub returns-in-NeedsLog-clause-frame : goal.returns-in-NeedsLog-clause-frame
returns-in-NeedsLog-clause-frame g c =
    let turn = subst (λ a. AppendNextTransition c.args.store.now (Ok a) c.append.new.store) c.in-NeedsLog.is c.in_ok-append.ensures.transition in
    subst (λ (s : State). FrameUnchanged s c.write_to_next_log.new.store) turn.1
    (step_still c.append.new.store c.write_to_next_log.new.store c.write_to_next_log.result c.write_to_next_log.ensures.transition)
