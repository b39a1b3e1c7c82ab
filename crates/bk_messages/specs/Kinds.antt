-- The words that name faults in their objects.
use Rattle.std.specs.Prelude.{ℕ, List, Option, Some, None, codes}
use Rattle.std.specs.IoError.{error_kind}
use Rattle.std.specs.declared.io.Error.{Error}
use Rattle.std.specs.declared.io.ErrorKind.{ErrorKind}
use Rattle.std.specs.declared.io.ErrorKind.TheVariants as kinds
use Rattle.bk_disk.specs.declared.fault.DiskFault.{DiskFault}
use Rattle.bk_disk.specs.declared.fault.DiskFault.TheVariants as disk
use Rattle.bk_disk.specs.declared.folder_fault.FolderFault.{FolderFault}
use Rattle.bk_disk.specs.declared.folder_fault.FolderFault.TheVariants as folder
use Rattle.bk_manifest.specs.declared.fault.ManifestError.{ManifestError}
use Rattle.bk_manifest.specs.declared.fault.ManifestError.TheVariants as manifest
use Rattle.bk_manifest_disk.specs.declared.directory.ReadFault.{ReadFault}
use Rattle.bk_manifest_disk.specs.declared.directory.ReadFault.TheVariants as reads
use Rattle.bk_manifest_disk.specs.declared.fault.Fault.{Fault}
use Rattle.bk_manifest_disk.specs.declared.fault.Fault.TheVariants as logs
use Rattle.bk_store.specs.declared.answer.OpenFault.{OpenFault}
use Rattle.bk_store.specs.declared.answer.OpenFault.TheVariants as opens
use Rattle.bk_store.specs.declared.step_fault.StepFault.{StepFault}
use Rattle.bk_store.specs.declared.step_fault.StepFault.TheVariants as steps
use Rattle.bk_offline_gc.specs.declared.answer.SweepFault.{SweepFault}
use Rattle.bk_offline_gc.specs.declared.answer.SweepFault.TheVariants as sweeps
use Rattle.bk_messages.specs.declared.dead.DeadFault.{DeadFault}
use Rattle.bk_messages.specs.declared.dead.DeadFault.TheVariants as dead
use Rattle.bk_messages.specs.declared.fault.CommandFault.{CommandFault}
use Rattle.bk_messages.specs.declared.fault.CommandFault.TheVariants as commands

-- A refusal of the system for want of memory is named so, each other one by another word.
abbrev pub word_of_kind : ErrorKind → List ℕ → List ℕ
word_of_kind kinds.OutOfMemory other = codes "memory"
word_of_kind kind other = other

abbrev pub reason_word : Error → List ℕ → List ℕ
reason_word reason other = word_of_kind (error_kind reason) other

abbrev pub folder_word : FolderFault → List ℕ
folder_word (folder.InUse lock holder) = codes "in use"
folder_word (folder.Refused path reason) = reason_word reason (codes "disk")
folder_word folder.Memory = codes "memory"

abbrev pub disk_word : DiskFault → List ℕ
disk_word disk.Disk = codes "disk"
disk_word disk.Exists = codes "log exists"
disk_word disk.NoLog = codes "no log"
disk_word disk.PastEnd = codes "past the end"
disk_word disk.TooLong = codes "log full"
disk_word disk.Memory = codes "memory"

abbrev pub read_word : ReadFault → List ℕ
read_word (reads.Unread path reason) = reason_word reason (codes "disk")
read_word (reads.NotPlain path) = codes "disk"
read_word (reads.Bad path fault) = codes "manifest"
read_word reads.Memory = codes "memory"

abbrev pub manifest_word : ManifestError → List ℕ
manifest_word manifest.Memory = codes "memory"
manifest_word manifest.Disk = codes "disk"
manifest_word manifest.TooLong = codes "batch too long"
manifest_word (manifest.Fault fault) = codes "manifest"

-- of logs that cannot be opened by their manifest
abbrev pub logs_word : Fault → List ℕ
logs_word (logs.Lack lack) = codes "manifest"
logs_word (logs.Manifest error) = manifest_word error
logs_word (logs.Disk fault) = disk_word fault

abbrev pub store_word : OpenFault → List ℕ
store_word opens.Settings = codes "settings"
store_word opens.Disk = codes "disk"
store_word opens.Memory = codes "memory"
store_word opens.LogsFull = codes "logs full"
store_word (opens.Log id cause) = codes "bad log"
store_word (opens.TooLong log) = codes "log too long"
store_word opens.Odd = codes "odd disk"

abbrev pub step_word : StepFault → List ℕ
step_word steps.Disk = codes "disk"
step_word (steps.Memory done) = codes "memory"
step_word steps.LogsFull = codes "logs full"
step_word steps.NoMoreIds = codes "no more ids"
step_word steps.Odd = codes "odd disk"

abbrev pub dead_word : DeadFault → List ℕ
dead_word (dead.Unread path reason) = reason_word reason (codes "unread")
dead_word (dead.Line path number end) = codes "bad line"
dead_word dead.NoneLive = codes "no live ledger is named"
dead_word dead.Logs = codes "ledgers of the logs unread"
dead_word (dead.Manifest fault) = read_word fault
dead_word dead.Memory = codes "memory"

-- of an opening of a store, or a step; each other fault of a compaction has its text
abbrev pub sweep_word : SweepFault → List ℕ → List ℕ
sweep_word (sweeps.Open fault) text = store_word fault
sweep_word (sweeps.Step fault) text = step_word fault
sweep_word fault text = text

abbrev pub command_word : CommandFault → List ℕ → List ℕ
command_word (commands.Folder fault) text = folder_word fault
command_word (commands.Disk fault) text = disk_word fault
command_word (commands.Logs fault) text = logs_word fault.fault
command_word (commands.Unread fault) text = read_word fault
command_word (commands.Dead fault) text = dead_word fault
command_word (commands.Book fault) text = manifest_word fault.error
command_word (commands.Name path reason) text = reason_word reason (codes "disk")
command_word (commands.Index file) text = codes "bookie index"
command_word (commands.Sweep fault) text = sweep_word fault text
command_word commands.Reported text = codes "disk"
command_word commands.Memory text = codes "memory"
command_word (commands.Output reason) text = reason_word reason (codes "output")
