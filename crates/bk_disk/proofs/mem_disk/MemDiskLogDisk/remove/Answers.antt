use Rattle.std.proofs.Common.{rules}
use Rattle.bk_disk.proofs.DurableGrows.{removes_keep}
use Rattle.bk_disk.proofs.FileMaps.{file_maps}
use Rattle.bk_disk.specs.Logs.{files_of}
use Rattle.bk_disk.proofs.FileMaps.{files_of-remove}
use Rattle.bk_disk.proofs.Bounds.{AreLogFiles-remove}
use Rattle.bk_disk.proofs.mem_disk.MemDiskLogDisk.remove.Goals as goal

pub invariant_of-self : goal.invariant_of-self
invariant_of-self c = rw (files_of-remove c.self.inside.logs c.remove.new.self c.args.log c.remove.ensures.updates)
    (AreLogFiles-remove (files_of c.self.inside.logs) c.args.log c.self.invariant)

pub returns-clause-durable : goal.returns-clause-durable
returns-clause-durable c = λ h. removes_keep c.args.self.now (files_of c.remove.new.self) c.args.log c.match-remove.result (search (rules, file_maps))
