-- One reading of a disk behind another.
use Rattle.std.proofs.Common.{Bool, IsTrue, sym, ◌∙◌, subst}
use Rattle.bk_record.specs.Files.{Files}
use Rattle.bk_inspect.specs.Reading.{OnlyReads}

pub honest_still : (h h' : Bool) (old mid : Files) → OnlyReads h old h' mid → IsTrue h → IsTrue h'
honest_still h h' old mid first honest = subst (λ (b : Bool). IsTrue b) (sym first.0) honest

pub read_then : (h h' h'' : Bool) (old mid new : Files) → OnlyReads h old h' mid → OnlyReads h' mid h'' new → OnlyReads h old h'' new
read_then h h' h'' old mid new first second =
    (second.0 ∙ first.0, λ honest. second.1 (honest_still h h' old mid first honest) ∙ first.1 honest)
