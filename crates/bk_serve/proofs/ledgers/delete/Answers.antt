use Rattle.std.proofs.Common.{refl}
use Rattle.bk_serve.specs.Ledgers.DeleteAnswers.{unnoted, deletes}
use Rattle.bk_serve.proofs.ledgers.delete.Goals as goal

pub returns-in-Ok : goal.returns-in-Ok
returns-in-Ok g c = deletes c.delete.result c.in-Ok.ensures c.delete.ensures c.reply_of_delete.ensures

pub returns-in-Err : goal.returns-in-Err
returns-in-Err g c = unnoted refl c.in-Err.ensures refl
