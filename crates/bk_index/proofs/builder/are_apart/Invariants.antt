use Rattle.std.specs.List.{AllAdjacentBelow}
use Rattle.bk_index.specs.Building.{RunEndsBefore}
use Rattle.bk_index.proofs.builder.are_apart.Given as goal

-- each of the first runs ends before the next one begins
abbrev pub invariant-loop-i : goal.invariant-loop-i
invariant-loop-i l = AllAdjacentBelow RunEndsBefore l.runs l.i
