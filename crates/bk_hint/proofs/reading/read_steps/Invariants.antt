use Rattle.std.proofs.Common.{◌≡◌, ◌+◌, ◌-◌, ◌*◌, ◌++◌, drop}
use Rattle.bk_hint.specs.Decoding.{steps_in}
use Rattle.bk_hint.proofs.reading.read_steps.Given as goal

abbrev pub invariant-loop-k : goal.invariant-loop-k
invariant-loop-k l = l.read.items ++ steps_in (l.count - l.k) (drop (l.from + 4 * l.k) l.bytes) ≡ steps_in l.count (drop l.from l.bytes)
