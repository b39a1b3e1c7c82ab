use Rattle.bk_script.specs.Line.{form}
use Rattle.bk_script.proofs.Parts.{form_with, no_add}
use Rattle.bk_script.proofs.line.read_call.Goals as goal

pub returns-in-Some-clause-ok : goal.returns-in-Some-clause-ok
returns-in-Some-clause-ok c = form c.in-Some.ensures

pub returns-in-None-clause-bad : goal.returns-in-None-clause-bad
returns-in-None-clause-bad c = λ _ step spells.
    c.in-None.ensures step (form_with _ _ _ step c.requires.word
    (no_add _ c.in_default.not-add c.in_default.not-radd) c.in_default.not-pad spells)
