use Rattle.bk_drive.proofs.StoreRefinement.{work_agrees, work_told}
use Rattle.bk_drive.proofs.run.apply.Goals as goal

pub returns-clause-cause : goal.returns-clause-cause
returns-clause-cause g c = work_told _ _ _ c.call.ensures.cause

pub returns-clause-plain : goal.returns-clause-plain
returns-clause-plain g c = λ honest. work_agrees _ _ _ c.reveal_invariant.ensures honest c.call.ensures.frame c.call.ensures.caches
