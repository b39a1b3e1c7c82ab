use Rattle.std.proofs.Common.{refl}
use Rattle.bk_serve.specs.Works.{no_tally, none}
use Rattle.bk_serve.proofs.Steps.{of_request}
use Rattle.bk_serve.proofs.background.Background.work.Goals as goal

pub returns-then-self : goal.returns-then-self
returns-then-self g c = (no_tally, none)

pub returns-else-self : goal.returns-else-self
returns-else-self g c = (no_tally, none)

pub returns : goal.returns
returns g c = (c.perform-answer.new.tally, of_request _ _ _ _ refl c.perform-answer.ensures)
