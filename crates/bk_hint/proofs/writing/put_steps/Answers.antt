use Rattle.std.proofs.Common.{arith}
use Rattle.bk_hint.proofs.Hints.{steps_fit}
use Rattle.bk_hint.proofs.writing.put_steps.Goals as goal

pub returns-clause-fit : goal.returns-clause-fit
returns-clause-fit c = steps_fit c.args.steps.now (λ k. omega (arith, c.type_inv.steps k))
