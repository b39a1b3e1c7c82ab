use Rattle.std.proofs.Common.{refl}
use Rattle.bk_survey.proofs.folder.add_fault.Goals as goal

pub returns : goal.returns
returns c = record {
  fault = record { fault = (c.in_ok-line.line, c.in_ok-push.ensures.items); others = refl };
  memory = λ is. absurd (c.in_default.not-Memory is);
}
