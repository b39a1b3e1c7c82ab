use Rattle.bk_inspect.proofs.Parts.{PartShown}
use Rattle.bk_inspect.specs.Forms.{followed}
use Rattle.bk_inspect.proofs.part.show_chosen.Given as goal

abbrev pub invariant-loop-scanner : goal.invariant-loop-scanner
invariant-loop-scanner g l = PartShown l.fn.choice l.initial.scanner l.scanner l.entries (followed l.fn.form (g.W.Write.contents l.fn.writer)) (followed l.fn.form (g.W.Write.contents l.writer))

abbrev pub decreases-loop-scanner : goal.decreases-loop-scanner
decreases-loop-scanner g l = l.scanner.left
