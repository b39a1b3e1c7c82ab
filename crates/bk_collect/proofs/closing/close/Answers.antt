use Rattle.std.proofs.Common.{refl}
use Rattle.bk_collect.proofs.CollectFrames.{closed_stays}
use Rattle.bk_collect.proofs.closing.close.Goals as goal

pub returns-in-Ok-clause-frame : goal.returns-in-Ok-clause-frame
returns-in-Ok-clause-frame g c =
    let left = closed_stays c.args.store.now c.close_log.new.self c.args.log c.in-Ok.ensures.transition in
    (left.0, left.1, λ other. absurd (other refl), left.2)
