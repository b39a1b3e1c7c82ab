use Rattle.bk_disk.proofs.Bounds.{AreLogFiles-none}
use Rattle.bk_disk.proofs.mem_disk.MemDisk.new.Goals as goal

pub invariant_of-result : goal.invariant_of-result
invariant_of-result c = rw c.new.ensures.empty AreLogFiles-none
