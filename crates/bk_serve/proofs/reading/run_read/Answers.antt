use Rattle.std.proofs.Common.{refl}
use Rattle.bk_serve_core.specs.Replies.{done, refused, not_held}
use Rattle.bk_serve.proofs.reading.run_read.Goals as goal

pub returns-in-NotHeld : goal.returns-in-NotHeld
returns-in-NotHeld g c = rw c.in-NotHeld.is (done not_held, refl, c.encode.ensures.ok)

pub returns-in-Refused : goal.returns-in-Refused
returns-in-Refused g c = rw c.in-Refused.is (refused c.in-Refused.refusal, refl, c.encode-in-Refused.ensures.ok)
