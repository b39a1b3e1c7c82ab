use Rattle.bk_serve.proofs.Steps.{steps_on}
use Rattle.bk_serve.proofs.tally.step.Goals as goal

pub returns-clause-works : goal.returns-clause-works
returns-clause-works g c = steps_on _ _ _ _ c.args.work c.apply-answer.result c.apply-answer.ensures.transition c.count.ensures
