use Rattle.std.proofs.Common.{refl}
use Rattle.bk_script.proofs.line.payload.add.Goals as goal

pub returns-in-Ordinary : goal.returns-in-Ordinary
returns-in-Ordinary c = (c.in-Ok.payload, rw c.in-Ordinary.is refl, rw c.as_bytes.ensures.value at c.in-Ok.ensures)

pub returns-in-Recovery : goal.returns-in-Recovery
returns-in-Recovery c = (c.in-Ok.payload, rw c.in-Recovery.is refl, rw c.as_bytes.ensures.value at c.in-Ok.ensures)
