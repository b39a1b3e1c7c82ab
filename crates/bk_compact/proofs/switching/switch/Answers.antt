use Rattle.std.proofs.Common.{rules, Some, length, take, sym, ap, subst, ◌∙◌}
use Rattle.bk_store.specs.Jobs.{Job}
use Rattle.bk_store.specs.State.{State}
use Rattle.bk_compact.specs.Compacting.{TakesMoves}
use Rattle.bk_compact.proofs.Finished.{taken_out}
use Rattle.bk_compact.proofs.CompactFrames.{switch_still}
use Rattle.bk_compact.specs.declared.answer.SwitchAnswer.TheVariants.{Moved}
use Rattle.bk_compact.proofs.switching.switch.Goals as goal

pub take_moves-moved-requires-clause-out : goal.take_moves-moved-requires-clause-out
take_moves-moved-requires-clause-out g c = λ κs within.
    taken_out c.args.store.now c.take_job.new.self c.reveal_invariant.ensures c.in-Some-take_job.taken.job (sym c.in-Some-take_job.ensures.job)
    c.take_job.ensures.left

pub returns-clause-transition : goal.returns-clause-transition
returns-clause-transition g c =
    let job = c.in-Some-take_job.taken.job in
    let turn = c.take_moves-moved.ensures.transition in (
      job,
      record { runs = sym c.in-Some-take_job.ensures.job; phase_is = search rules },
      c.left-left.ensures ∙ ap (λ (j : Job). length j.moves) turn.left,
      (
        c.take_moves-moved.new.store,
        subst (λ (s : State). TakesMoves s (take c.args.count job.moves) c.take_moves-moved.result c.take_moves-moved.new.store)
            c.take_job.ensures.left turn.takes,
        c.set_job.ensures ∙ ap (λ (j : Job). record c.take_moves-moved.new.store { job = Some j }) turn.left,
      ),
    )

pub returns-clause-frame : goal.returns-clause-frame
returns-clause-frame g c =
    switch_still c.args.store.now c.set_job.new.self c.args.count (Moved c.take_moves-moved.result c.left-left.result) (returns-clause-transition g c)
