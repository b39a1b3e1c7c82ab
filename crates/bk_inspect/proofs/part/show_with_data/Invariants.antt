use Rattle.bk_inspect.proofs.part.show_with_data.Given as goal

abbrev pub decreases-loop-scanner : goal.decreases-loop-scanner
decreases-loop-scanner g l = l.scanner.left
