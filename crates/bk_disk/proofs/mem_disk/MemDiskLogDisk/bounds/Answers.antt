use Rattle.std.proofs.Common.{subst}
use Rattle.bk_disk.specs.Disk.{AreLogFiles}
use Rattle.bk_disk.proofs.mem_disk.MemDiskLogDisk.bounds.Goals as goal

pub returns : goal.returns
returns c = λ _. subst AreLogFiles c.self.view_is c.self.invariant
