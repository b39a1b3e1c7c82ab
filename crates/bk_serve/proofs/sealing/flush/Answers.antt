use Rattle.std.proofs.Common.{refl}
use Rattle.bk_serve.proofs.Steps.{of_request}
use Rattle.bk_serve.proofs.sealing.flush.Goals as goal

pub returns-in-Ok : goal.returns-in-Ok
returns-in-Ok g c = (c.flush_all.new.tally, of_request _ _ _ _ refl c.flush_all.ensures.works, refl, c.in-Ok.ensures.empty)

pub returns-in-Err : goal.returns-in-Err
returns-in-Err g c = (c.flush_all.new.tally, of_request _ _ _ _ refl c.flush_all.ensures.works)
