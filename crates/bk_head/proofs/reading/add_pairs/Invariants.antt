use Rattle.std.proofs.Common.{◌≡◌, ℕ, ◌*◌, List, take}
use Rattle.std.specs.FinMap.{from_entries}
use Rattle.bk_head.specs.Ledgers.{map_of, ledgers_of, AreDistinct}
use Rattle.bk_head.specs.Parts.{AddsPairs}
use Rattle.bk_head.proofs.reading.add_pairs.Given as goal

-- loop invariant: the bytes so far are those of the pairs added
abbrev pub invariant-loop-k : goal.invariant-loop-k
invariant-loop-k l = (before : List (ℕ × ℕ)) → AreDistinct (ledgers_of before) → map_of l.fn.map ≡ from_entries before
    → AddsPairs before (take (16 * l.k) l.bytes) (map_of l.map)
