use Rattle.std.proofs.Common.{refl}
use Rattle.bk_collect.proofs.CollectFrames.{removed_stays}
use Rattle.bk_collect.proofs.removing.remove.Goals as goal

pub returns-in-Ok-clause-frame : goal.returns-in-Ok-clause-frame
returns-in-Ok-clause-frame g c =
    let left = removed_stays c.args.store.now c.remove_log.new.self c.args.log c.in-Ok.ensures.transition in
    (left.0, left.1, λ other. absurd (other refl))
