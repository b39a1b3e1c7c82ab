use Rattle.bk_inspect.proofs.Scans.{Shown}
use Rattle.bk_inspect.specs.Forms.{followed}
use Rattle.bk_inspect.proofs.scan.show_entries.Given as goal

abbrev pub invariant-loop-scanner : goal.invariant-loop-scanner
invariant-loop-scanner g l = Shown l.initial.scanner l.scanner l.entries (followed l.fn.form (g.W.Write.contents l.fn.writer)) (followed l.fn.form (g.W.Write.contents l.writer))

abbrev pub decreases-loop-scanner : goal.decreases-loop-scanner
decreases-loop-scanner g l = l.scanner.left
