use Rattle.bk_inspect.proofs.Keeps.{seal_keeps}
use Rattle.bk_inspect.proofs.seal_run.run_seal.Goals as goal

pub returns-clause-entries : goal.returns-clause-entries
returns-clause-entries g c = λ honest. seal_keeps _ _ c.args.log (c.run_seal_watched.ensures.leaves honest)
