use Rattle.std.proofs.Common.{◌-◌}
use Rattle.bk_offline_gc.specs.Stages.{HasCopiedTo}
use Rattle.bk_offline_gc.proofs.compacting.copy_all.Given as goal

-- the job comes to later and later positions
abbrev pub invariant-loop-count : goal.invariant-loop-count
invariant-loop-count g l = HasCopiedTo l.initial.store l.at l.store

abbrev pub decreases-loop-count : goal.decreases-loop-count
decreases-loop-count g l = 18446744073709551615 - l.at
