use Rattle.bk_store.proofs.PrimitiveFrames.{seals_still}
use Rattle.bk_flush.proofs.sealing.roll.Goals as goal

pub returns-clause-frame : goal.returns-clause-frame
returns-clause-frame g c = seals_still c.in_ok-seal.ensures.transition

pub returns-in_err-seal-clause-frame : goal.returns-in_err-seal-clause-frame
returns-in_err-seal-clause-frame g c = seals_still c.in_err-seal.ensures.transition
