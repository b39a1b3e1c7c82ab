use Rattle.bk_hint_folder.proofs.Leaving.{leaves_true}
use Rattle.bk_hint_folder.proofs.making.hint_log.Goals as goal

pub returns-clause-truth : goal.returns-clause-truth
returns-clause-truth g c = λ honest sure before. leaves_true _ _ _ _ _ _ (c.take_log.ensures.hints honest sure) before
