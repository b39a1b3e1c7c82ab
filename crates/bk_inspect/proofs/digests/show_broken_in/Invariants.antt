use Rattle.bk_inspect.proofs.digests.show_broken_in.Given as goal

abbrev pub decreases-loop-scanner : goal.decreases-loop-scanner
decreases-loop-scanner g l = l.scanner.left
