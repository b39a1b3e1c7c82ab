use Rattle.bk_inspect.proofs.data.show_digits.Given as goal

abbrev pub decreases-loop-left : goal.decreases-loop-left
decreases-loop-left g l = l.left
