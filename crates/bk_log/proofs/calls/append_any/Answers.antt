use Rattle.std.proofs.Common.{sym}
use Rattle.std.proofs.lemmas.Bool.{eqb-true}
use Rattle.bk_log.proofs.Seals.{adds_nothing}
use Rattle.bk_log.proofs.calls.append_any.Goals as goal

pub returns-then-is_empty-clause-transition : goal.returns-then-is_empty-clause-transition
returns-then-is_empty-clause-transition g c = λ h. adds_nothing _ _ _ (c.requires h) (eqb-true _ _ (sym c.if-is_empty.ensures))
