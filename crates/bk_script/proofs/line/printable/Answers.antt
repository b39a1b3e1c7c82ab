use Rattle.bk_script.proofs.Printable.{text_of_printable}
use Rattle.bk_script.proofs.line.printable.Goals as goal

pub returns : goal.returns
returns c = rw c.ok.ensures.value (text_of_printable _ _ _ c.from_utf8.ensures.cases (c.is_printable.ensures.0 c.if-not-is_printable.false))
