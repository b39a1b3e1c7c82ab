use Rattle.std.proofs.Common.{◌-◌, ◌≤◌, length, take}
use Rattle.bk_head.specs.Ledgers.{map_of, SpellsMap}
use Rattle.bk_head.proofs.reading.read_batches.Given as goal

-- loop invariant: the bytes so far parse as the map so far
abbrev pub invariant-loop-at : goal.invariant-loop-at
invariant-loop-at l = (l.at ≤ length l.tail) × SpellsMap (take l.at l.tail) (map_of l.map)

abbrev pub decreases-loop-at : goal.decreases-loop-at
decreases-loop-at l = length l.tail - l.at
