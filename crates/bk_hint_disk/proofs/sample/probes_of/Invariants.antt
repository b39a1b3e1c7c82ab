use Rattle.std.proofs.Common.{◌≡◌, ◌-◌}
use Rattle.bk_hint_disk.proofs.Sampling.{Samples}
use Rattle.bk_hint_disk.proofs.sample.probes_of.Given as goal

abbrev pub invariant-loop-place : goal.invariant-loop-place
invariant-loop-place l = record { same : l.cursor ≡ l.contents; samples : Samples l.contents l.spacing l.last l.place l.probes.items }

abbrev pub decreases-loop-place : goal.decreases-loop-place
decreases-loop-place l = l.last - l.place
