use Rattle.bk_base_tests.proofs.tests.log.hostile.scan.Given as goal

abbrev pub decreases-loop-entry : goal.decreases-loop-entry
decreases-loop-entry g l = l.scanner.left
