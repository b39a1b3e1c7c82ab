use Rattle.std.proofs.Common.{ℕ, ◌<◌}
use Rattle.bk_scenarios.specs.Lines.{HaveSame}
use Rattle.bk_scenarios.proofs.compare.first_other.Given as goal

abbrev pub invariant-loop-index : goal.invariant-loop-index
invariant-loop-index l = (k : ℕ) → k < l.index → HaveSame l.expected l.got k
