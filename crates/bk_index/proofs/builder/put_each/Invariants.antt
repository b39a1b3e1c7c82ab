use Rattle.std.proofs.Common.{◌≡◌, take}
use Rattle.bk_index.specs.Building.{with_runs}
use Rattle.bk_index.proofs.builder.put_each.Given as goal

-- the first runs are in the index
abbrev pub invariant-loop-run : goal.invariant-loop-run
invariant-loop-run l = l.index ≡ with_runs l.initial.index (take l.run-index l.runs)
