use Rattle.std.proofs.Common.{refl}
use Rattle.bk_serve.specs.Adds.AddAnswers.{behind, agreeing}
use Rattle.bk_serve.proofs.adding.add.Goals as goal

pub returns-in-Ok : goal.returns-in-Ok
returns-in-Ok g c = agreeing c.catch_up.new.store c.in-Ok.ensures c.add_content.ensures

pub returns-in-Err : goal.returns-in-Err
returns-in-Err g c = behind refl c.in-Err.ensures
