use Rattle.std.proofs.Common.{◌≡◌, take}
use Rattle.bk_index.specs.Packed.{cell_pairs}
use Rattle.bk_index.proofs.page.packed.Packed.of_pairs.Given as goal

-- the cells so far are those of the pairs so far
abbrev pub invariant-loop-key : goal.invariant-loop-key
invariant-loop-key l = cell_pairs l.ledger l.base l.cells.items ≡ take l.key-index l.pairs
