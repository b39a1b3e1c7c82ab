use Rattle.std.proofs.Common.{◌≡◌, take}
use Rattle.bk_index.specs.Packed.{cell_pairs}
use Rattle.bk_index.proofs.page.packed.Packed.unpacked.Given as goal

-- the pairs so far are those of the cells so far
abbrev pub invariant-loop-offset : goal.invariant-loop-offset
invariant-loop-offset l = l.pairs.items ≡ cell_pairs l.ledger l.base (take l.offset-index l.offset-items)
