use Rattle.std.proofs.Common.{Some, None, refl}
use Rattle.bk_flush.proofs.ready.seal_writing.Goals as goal

pub returns-in-Some-clause-transition : goal.returns-in-Some-clause-transition
returns-in-Some-clause-transition g c = (Some c.in-Some.log, c.in-Some.ensures, c.seal.ensures.transition)

pub returns-in-None-clause-transition : goal.returns-in-None-clause-transition
returns-in-None-clause-transition g c = (None, c.in-None.ensures, refl)
