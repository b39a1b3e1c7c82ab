use Rattle.bk_inspect.proofs.Keeps.{cut_and_seal_keeps}
use Rattle.bk_inspect.proofs.cut_run.run_cut_and_seal.Goals as goal

pub returns-clause-entries : goal.returns-clause-entries
returns-clause-entries g c = λ honest kept. cut_and_seal_keeps _ _ _ _ _ c.args.log (c.run_cut_watched.ensures.leaves honest kept)
