use Rattle.std.proofs.Common.{inr, refl}
use Rattle.bk_crash.proofs.written_log.spoil.Goals as goal

pub returns-in-0 : goal.returns-in-0
returns-in-0 g c = inr (_, refl, c.overwrite.ensures)

pub returns-in-1 : goal.returns-in-1
returns-in-1 g c = inr (_, refl, c.overwrite-in-1.ensures)
