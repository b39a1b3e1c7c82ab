use Rattle.std.proofs.Common.{refl}
use Rattle.bk_serve.specs.Ledgers.FenceAnswers.{unnoted, fencing}
use Rattle.bk_serve.proofs.ledgers.fence.Goals as goal

pub returns-in-Ok : goal.returns-in-Ok
returns-in-Ok g c = fencing c.fence.result c.in-Ok.ensures.ok c.fence.ensures c.reply_of_fence.ensures

pub returns-in-Err : goal.returns-in-Err
returns-in-Err g c = unnoted refl c.in-Err.ensures.err refl
