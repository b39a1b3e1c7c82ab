use Rattle.bk_disk.proofs.blocks.Blocks.share.Goals as goal

pub invariant_of-result : goal.invariant_of-result
invariant_of-result c = rw (c.in_ok-full.ensures, c.in_ok-last.ensures.items, c.deref.ensures.value) c.self.invariant

pub returns : goal.returns
returns c = rw (c.in_ok-full.ensures, c.in_ok-last.ensures.items, c.deref.ensures.value) c.self.view_is
