use Rattle.std.proofs.Common.{refl}
use Rattle.bk_serve.specs.Adds.AddsAfterFlush.{flushed, failed}
use Rattle.bk_serve.proofs.Steps.{of_request}
use Rattle.bk_serve.proofs.adding.add_after_flush.Goals as goal

pub returns-in-Ok : goal.returns-in-Ok
returns-in-Ok g c =
    flushed c.flush_all.new.store (c.flush_all.new.tally, of_request _ _ _ _ refl c.flush_all.ensures.works) c.in-Ok.ensures.empty
    (record { result = c.add_payload.result; adds = c.add_payload.ensures; says = c.reply_of.ensures })

pub returns-in-Err : goal.returns-in-Err
returns-in-Err g c = failed c.of_step.result refl (c.flush_all.new.tally, of_request _ _ _ _ refl c.flush_all.ensures.works)
