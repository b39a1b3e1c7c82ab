use Rattle.std.proofs.Common.{rules, Ok, Err}
use Rattle.bk_disk.proofs.DurableGrows.{creates_keep}
use Rattle.bk_disk.proofs.FileMaps.{file_maps}
use Rattle.bk_disk.specs.Logs.{files_of}
use Rattle.bk_disk.specs.declared.fault.DiskFault.TheVariants.{Memory}
use Rattle.bk_disk.proofs.Bounds.{AreLogFiles-updates, IsLogFile-none}
use Rattle.bk_disk.proofs.mem_disk.MemDiskLogDisk.create.Goals as goal

pub invariant_of-self : goal.invariant_of-self
invariant_of-self c =
    AreLogFiles-updates c.self.inside.logs c.insert.new.self c.args.log c.new.result c.insert.result c.insert.ensures.updates c.insert.ensures.err
    (rw c.new.ensures (IsLogFile-none c.args.log c.requires)) c.self.invariant

pub invariant_of-self-2 : goal.invariant_of-self-2
invariant_of-self-2 c =
    AreLogFiles-updates c.self.inside.logs c.insert.new.self c.args.log c.new.result c.insert.result c.insert.ensures.updates c.insert.ensures.err
    (rw c.new.ensures (IsLogFile-none c.args.log c.requires)) c.self.invariant

pub returns-in_err-map_err-clause-durable : goal.returns-in_err-map_err-clause-durable
returns-in_err-map_err-clause-durable c = λ h. creates_keep {T = Unit {0}} c.args.self.now (files_of c.insert.new.self) c.args.log (Err Memory) (search (rules, file_maps))

pub returns-clause-durable : goal.returns-clause-durable
returns-clause-durable c = λ h. creates_keep {T = Unit {0}} c.args.self.now (files_of c.insert.new.self) c.args.log (Ok tt) (search (rules, file_maps))
