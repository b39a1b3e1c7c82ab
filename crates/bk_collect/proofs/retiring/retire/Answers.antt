use Rattle.std.proofs.Common.{ap}
use Rattle.bk_store.specs.State.{State}
use Rattle.bk_store.specs.declared.log.LogState.TheVariants.{Retired}
use Rattle.bk_store.proofs.PrimitiveFrames.{set_still}
use Rattle.bk_collect.proofs.retiring.retire.Goals as goal

pub returns-in-Readable-3-clause-frame : goal.returns-in-Readable-3-clause-frame
returns-in-Readable-3-clause-frame g c =
    let turn = c.set_log_state.ensures.transition in
    (set_still c.args.store.now c.set_log_state.new.self c.args.log Retired turn, ap (λ (x : State). x.failures) turn.2)
