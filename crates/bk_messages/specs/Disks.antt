-- The faults of which a call of the system may be the reason: the device failed, or the disk is odd.
use Rattle.std.specs.Prelude.{ℕ, Bool, true, false}
use Rattle.bk_disk.specs.declared.fault.DiskFault.{DiskFault}
use Rattle.bk_disk.specs.declared.fault.DiskFault.TheVariants as disk
use Rattle.bk_manifest.specs.declared.fault.ManifestError.{ManifestError}
use Rattle.bk_manifest.specs.declared.fault.ManifestError.TheVariants as manifest
use Rattle.bk_manifest_disk.specs.declared.fault.Fault.{Fault}
use Rattle.bk_manifest_disk.specs.declared.fault.Fault.TheVariants as logs
use Rattle.bk_store.specs.declared.answer.OpenFault.{OpenFault}
use Rattle.bk_store.specs.declared.answer.OpenFault.TheVariants as opens
use Rattle.bk_store.specs.declared.step_fault.StepFault.{StepFault}
use Rattle.bk_store.specs.declared.step_fault.StepFault.TheVariants as steps
use Rattle.bk_collect.specs.declared.answer.CollectFault.{CollectFault}
use Rattle.bk_collect.specs.declared.answer.CollectFault.TheVariants as collects
use Rattle.bk_offline_gc.specs.declared.answer.SweepFault.{SweepFault}
use Rattle.bk_offline_gc.specs.declared.answer.SweepFault.TheVariants as sweeps
use Rattle.bk_messages.specs.declared.fault.CommandFault.{CommandFault}
use Rattle.bk_messages.specs.declared.fault.CommandFault.TheVariants as commands

abbrev pub is_failed_book : ManifestError → Bool
is_failed_book manifest.Disk = true
is_failed_book error = false

abbrev pub are_failed_logs : Fault → Bool
are_failed_logs (logs.Disk disk.Disk) = true
are_failed_logs (logs.Manifest error) = is_failed_book error
are_failed_logs fault = false

abbrev pub is_failed_opening : OpenFault → Bool
is_failed_opening opens.Disk = true
is_failed_opening opens.Odd = true
is_failed_opening fault = false

abbrev pub is_failed_step : StepFault → Bool
is_failed_step steps.Disk = true
is_failed_step steps.Odd = true
is_failed_step fault = false

abbrev pub is_failed_removal : CollectFault → Bool
is_failed_removal collects.Disk = true
is_failed_removal collects.Odd = true
is_failed_removal fault = false

abbrev pub is_failed_sweep : SweepFault → Bool
is_failed_sweep sweeps.Disk = true
is_failed_sweep sweeps.Odd = true
is_failed_sweep (sweeps.Open fault) = is_failed_opening fault
is_failed_sweep (sweeps.Step fault) = is_failed_step fault
is_failed_sweep (sweeps.Collect fault) = is_failed_removal fault
is_failed_sweep fault = false

-- a listing fails for the device unless memory is refused
abbrev pub is_failed_list : DiskFault → Bool
is_failed_list disk.Memory = false
is_failed_list fault = true

abbrev pub is_device_fault : CommandFault → Bool
is_device_fault (commands.Disk fault) = is_failed_list fault
is_device_fault (commands.Book fault) = is_failed_book fault.error
is_device_fault (commands.Logs fault) = are_failed_logs fault.fault
is_device_fault (commands.Sweep fault) = is_failed_sweep fault
is_device_fault fault = false
