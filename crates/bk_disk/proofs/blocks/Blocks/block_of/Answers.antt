use Rattle.std.proofs.Common.{arith}
use Rattle.bk_disk.proofs.Cuts.{full_block_of, last_block_of}
use Rattle.bk_disk.proofs.blocks.Blocks.block_of.Goals as goal

pub returns-then-at-len : goal.returns-then-at-len
returns-then-at-len c =
    let found = full_block_of c.self.inside.full _ _ c.args.at _ c.self.invariant c.self.view_is (omega (arith, c.len.ensures.value)) c.block.ensures in
    record { inside = found.0; value = found.1 }

pub returns-else-at-len : goal.returns-else-at-len
returns-else-at-len c =
    let found = last_block_of c.self.inside.full _ _ c.args.at c.self.invariant c.self.view_is c.requires (omega (arith, c.len.ensures.value)) in
    rw c.deref.ensures.value (record { inside = found.0; value = found.1 })
