use Rattle.std.proofs.Common.{inl, inr, refl}
use Rattle.bk_serve.proofs.Steps.{of_request}
use Rattle.bk_serve.proofs.sealing.seal.Goals as goal

pub returns-in-Ok : goal.returns-in-Ok
returns-in-Ok g c = inl (record {
  middle = c.flush_all.new.store;
  works = (c.flush_all.new.tally, of_request _ _ _ _ refl c.flush_all.ensures.works);
  empty = c.in-Ok.ensures.empty;
  rolls = c.seal_open.ensures;
})

pub returns-in-Err : goal.returns-in-Err
returns-in-Err g c = inr (c.of_step.result, refl, (c.flush_all.new.tally, of_request _ _ _ _ refl c.flush_all.ensures.works))
