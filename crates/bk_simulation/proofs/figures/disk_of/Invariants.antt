use Rattle.std.proofs.Common.{◌≡◌, take, sum_by}
use Rattle.bk_simulation.specs.Numbers.{in_64_bits}
use Rattle.bk_simulation.proofs.figures.disk_of.Given as goal

abbrev pub invariant-loop-sample : goal.invariant-loop-sample
invariant-loop-sample l = l.sum ≡ in_64_bits (sum_by (λ sample. sample.disk) (take l.sample-index l.samples))
