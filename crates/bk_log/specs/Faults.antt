-- Errors of the disk as errors of a log.
use Rattle.std.specs.Prelude.{Bool, true, false}
use Rattle.bk_disk.specs.declared.fault.DiskFault.{DiskFault}
use Rattle.bk_disk.specs.declared.fault.DiskFault.TheVariants as disks
use Rattle.bk_log.specs.declared.fault.LogFault.{LogFault}
use Rattle.bk_log.specs.declared.fault.LogFault.TheVariants.{Disk, Failed, Memory, Odd}

-- `Memory` and `Disk` stay; an honest disk has no other error for a log that exists
abbrev pub log_fault_of : DiskFault → LogFault
log_fault_of disks.Disk = Disk
log_fault_of disks.Memory = Memory
log_fault_of disks.Exists = Odd
log_fault_of disks.NoLog = Odd
log_fault_of disks.PastEnd = Odd
log_fault_of disks.TooLong = Odd

-- whether nothing is appended after a write with this error
abbrev pub is_lasting : LogFault → Bool
is_lasting Disk = true
is_lasting Failed = true
is_lasting Memory = false
is_lasting Odd = true
