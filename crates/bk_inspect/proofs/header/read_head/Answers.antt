use Rattle.std.proofs.Common.{Bool, IsTrue, sym, subst}
use Rattle.bk_inspect.specs.Heads.{StartsWith}
use Rattle.bk_inspect.proofs.Heads.{head_known}
use Rattle.bk_inspect.proofs.header.read_head.Goals as goal

pub returns-in-Some-clause-ok : goal.returns-in-Some-clause-ok
returns-in-Some-clause-ok g c = λ honest.
    head_known _ _ _ _ _ c.in-Ok-read_at.bytes c.in-Some.head (c.in-Ok.ensures.transition honest)
    (c.in-Ok-read_at.ensures.transition (subst (λ (b : Bool). IsTrue b) (sym c.length.ensures.honest) honest))
    (subst (λ b. StartsWith b c.in-Some.head) c.deref.ensures.value c.in-Some.ensures)
