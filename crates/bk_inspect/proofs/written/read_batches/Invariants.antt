use Rattle.std.proofs.Common.{◌-◌, ◌≤◌, IsTrue, take, drop}
use Rattle.bk_head.specs.Ledgers.{map_of, SpellsMap}
use Rattle.bk_inspect.proofs.written.read_batches.Given as goal

-- the bytes so far spell the map so far
abbrev pub invariant-loop-at : goal.invariant-loop-at
invariant-loop-at g l =
    (l.at ≤ l.length) × (IsTrue (g.V.LogView.honest l.view) → SpellsMap (take l.at (drop l.offset (g.V.LogView.bytes l.view))) (map_of l.map))

abbrev pub decreases-loop-at : goal.decreases-loop-at
decreases-loop-at g l = l.length - l.at
