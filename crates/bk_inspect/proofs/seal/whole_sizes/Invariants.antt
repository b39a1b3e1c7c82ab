use Rattle.bk_inspect.proofs.Seals.{Counting}
use Rattle.bk_inspect.proofs.seal.whole_sizes.Given as goal

-- each entry that was given was counted
abbrev pub invariant-loop-sizes : goal.invariant-loop-sizes
invariant-loop-sizes g l = Counting l.initial.scanner l.scanner l.sizes.sizes

abbrev pub decreases-loop-sizes : goal.decreases-loop-sizes
decreases-loop-sizes g l = l.scanner.left
