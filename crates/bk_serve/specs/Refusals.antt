-- The refusals of faults.
use Rattle.bk_record.specs.declared.fault.RecordFault.{RecordFault}
use Rattle.bk_record.specs.declared.fault.RecordFault.TheVariants as records
use Rattle.bk_store.specs.declared.answer.AddFault.{AddFault}
use Rattle.bk_store.specs.declared.answer.AddFault.TheVariants as adds
use Rattle.bk_store.specs.declared.answer.TakeFault.{TakeFault}
use Rattle.bk_store.specs.declared.answer.TakeFault.TheVariants as takes
use Rattle.bk_store.specs.declared.answer.DeleteFault.{DeleteFault}
use Rattle.bk_store.specs.declared.answer.DeleteFault.TheVariants as deletes
use Rattle.bk_store.specs.declared.answer.FenceFault.{FenceFault}
use Rattle.bk_store.specs.declared.answer.FenceFault.TheVariants as fences
use Rattle.bk_store.specs.declared.step_fault.StepFault.{StepFault}
use Rattle.bk_store.specs.declared.step_fault.StepFault.TheVariants as steps
use Rattle.bk_log.specs.declared.fault.FetchFault.{FetchFault}
use Rattle.bk_log.specs.declared.fault.FetchFault.TheVariants as fetches
use Rattle.bk_collect.specs.declared.answer.CollectFault.{CollectFault}
use Rattle.bk_collect.specs.declared.answer.CollectFault.TheVariants as collects
use Rattle.bk_manifest.specs.declared.fault.ManifestError.{ManifestError}
use Rattle.bk_manifest.specs.declared.fault.ManifestError.TheVariants as notes
use Rattle.bk_serve_core.specs.declared.refusal.Refusal.{Refusal}
use Rattle.bk_serve_core.specs.declared.refusal.Refusal.TheVariants as f

abbrev pub of_record : RecordFault → Refusal
of_record (records.Short size) = f.TooLong size
of_record records.Negative = f.Negative
of_record (records.TooLong size) = f.TooLong size
of_record records.Memory = f.Memory

abbrev pub of_add : AddFault → Refusal
of_add (adds.Bad fault) = of_record fault
of_add adds.Deleted = f.Deleted
of_add adds.Fenced = f.Fenced
of_add (adds.Full used limit) = f.Full used limit
of_add adds.Memory = f.Memory

abbrev pub of_take : TakeFault → Refusal
of_take takes.NoSeat = f.NoSeat
of_take takes.TooMany = f.TooMany
of_take takes.Memory = f.Memory

abbrev pub of_fetch : FetchFault → Refusal
of_fetch fetches.Disk = f.Disk
of_fetch fetches.NotThere = f.NotThere
of_fetch fetches.Memory = f.Memory
of_fetch fetches.Odd = f.Odd

abbrev pub of_delete : DeleteFault → Refusal
of_delete deletes.AlreadyDeleted = f.AlreadyDeleted
of_delete deletes.Memory = f.Memory

abbrev pub of_fence : FenceFault → Refusal
of_fence fences.Deleted = f.Deleted
of_fence fences.Memory = f.Memory

abbrev pub of_step : StepFault → Refusal
of_step steps.Disk = f.Disk
of_step (steps.Memory done) = f.Memory
of_step steps.LogsFull = f.LogsFull
of_step steps.NoMoreIds = f.NoMoreIds
of_step steps.Odd = f.Odd

abbrev pub of_collect : CollectFault → Refusal
of_collect collects.Disk = f.Disk
of_collect collects.Memory = f.Memory
of_collect (collects.Log id cause) = f.BadLog id
of_collect collects.Odd = f.Odd

abbrev pub of_note : ManifestError → Refusal
of_note notes.Memory = f.Memory
of_note notes.Disk = f.Disk
of_note notes.TooLong = f.Disk
of_note (notes.Fault fault) = f.Odd
