use Rattle.bk_inspect.proofs.Cuts.{Passing}
use Rattle.bk_inspect.proofs.cut.torn_in.Given as goal

-- no fault was met, and nothing was found torn
abbrev pub invariant-loop-scanner : goal.invariant-loop-scanner
invariant-loop-scanner g l = Passing l.initial.scanner l.scanner

abbrev pub decreases-loop-scanner : goal.decreases-loop-scanner
decreases-loop-scanner g l = l.scanner.left
