use Rattle.std.proofs.Common.{◌≡◌, arith, sym, ◌∙◌}
use Rattle.bk_script.proofs.Printable.{printable_behind}
use Rattle.bk_script.specs.Line.{form}
use Rattle.bk_script.proofs.Parts.{printable_line, form_alone}
use Rattle.bk_script.proofs.line.read_step.Goals as goal

pub returns-in_default-clause-bad : goal.returns-in_default-clause-bad
returns-in_default-clause-bad c = λ _ step spells. c.in_default.ensures (printable_line (omega (arith, c.ranges.last_reader.fits)) spells)

pub read_call-requires-clause-printable : goal.read_call-requires-clause-printable
read_call-requires-clause-printable c =
    let whole = rw c.in-Some-rest.is at c.split_word.ensures.whole in
    printable_behind _ _ (rw (sym c.in-Some.ensures.0 ∙ whole) at c.in-Some.ensures.1)

pub returns-in-Some-read_form-clause-ok : goal.returns-in-Some-read_form-clause-ok
returns-in-Some-read_form-clause-ok c =
    let whole = rw c.in-None.is at c.split_word.ensures.whole in
    let is : c.args.line.now ≡ c.split_word.result.0.now = sym c.in-Some.ensures.0 ∙ whole in
    rw is (form c.in-Some-read_form.ensures)

pub returns-in-None-read_form-clause-bad : goal.returns-in-None-read_form-clause-bad
returns-in-None-read_form-clause-bad c = λ _ step spells.
    let whole = rw c.in-None.is at c.split_word.ensures.whole in
    let is : c.args.line.now ≡ c.split_word.result.0.now = sym c.in-Some.ensures.0 ∙ whole in
    c.in-None-read_form.ensures step (form_alone _ _ step c.split_word.ensures.word (rw is at spells))
