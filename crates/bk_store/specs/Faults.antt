-- Faults of a step of a flush or of a compaction, from the faults of the calls in it.
use Rattle.std.specs.Prelude.{Result, IsErrOf}
use Rattle.bk_disk.specs.Disk.{FailsExactlyIf}
use Rattle.bk_log.specs.declared.fault.LogFault.{LogFault}
use Rattle.bk_log.specs.declared.fault.LogFault.TheVariants as log_faults
use Rattle.bk_store.specs.State.{State}
use Rattle.bk_store.specs.declared.answer.MakeFault.{MakeFault}
use Rattle.bk_store.specs.declared.answer.MakeFault.TheVariants as makes
use Rattle.bk_store.specs.declared.step_fault.StepFault.{StepFault}
use Rattle.bk_store.specs.declared.step_fault.StepFault.TheVariants as step_faults

-- the fault of a step for a fault of a log
abbrev pub step_fault_of : LogFault → StepFault
step_fault_of log_faults.Memory = step_faults.Memory 0
step_fault_of log_faults.Disk = step_faults.Disk
step_fault_of log_faults.Failed = step_faults.Odd
step_fault_of log_faults.Odd = step_faults.Odd

-- the fault of a step for a failed creation of a log
abbrev pub step_fault_of_make : MakeFault → StepFault
step_fault_of_make makes.LogsFull = step_faults.LogsFull
step_fault_of_make makes.NoMoreIds = step_faults.NoMoreIds
step_fault_of_make makes.Memory = step_faults.Memory 0
step_fault_of_make makes.Disk = step_faults.Disk
step_fault_of_make makes.Odd = step_faults.Odd

-- a step returns `Disk` exactly if the device failed in it, and it failed once
abbrev pub ReportsDeviceFault : {T : Type 0} → State → Result T StepFault → State → Type 0
ReportsDeviceFault s result t = FailsExactlyIf s.failures t.failures (IsErrOf result step_faults.Disk)
