-- Which answers report a device failure.
use Rattle.std.specs.Prelude.{ℕ, ◌+◌, ◌<◌, ◌≤◌, List, IsErrOf}
use Rattle.std.specs.List.{All}
use Rattle.bk_log.specs.declared.fault.FetchFault.TheVariants as fetch_faults
use Rattle.bk_store.specs.declared.step_fault.StepFault.TheVariants as step_faults
use Rattle.bk_collect.specs.declared.answer.CollectFault.TheVariants as collect_faults
use Rattle.bk_drive.specs.declared.step.Answer.{Answer}
use Rattle.bk_drive.specs.declared.step.Answer.TheVariants as answers

-- The answer is `Disk`: the device failed, or a view could not be read.
abbrev pub IsDiskFault : Answer → Type 0
IsDiskFault (answers.Fetch r) = IsErrOf r fetch_faults.Disk
IsDiskFault (answers.Write r) = IsErrOf r step_faults.Disk
IsDiskFault (answers.Publish r) = IsErrOf r step_faults.Disk
IsDiskFault (answers.Roll r) = IsErrOf r step_faults.Disk
IsDiskFault (answers.Rebuild r) = IsErrOf r collect_faults.Disk
IsDiskFault (answers.Remove r) = IsErrOf r collect_faults.Disk
IsDiskFault (answers.Begin r) = IsErrOf r step_faults.Disk
IsDiskFault (answers.Copy r) = IsErrOf r step_faults.Disk
IsDiskFault (answers.EndCopy r) = IsErrOf r step_faults.Disk
IsDiskFault _ = ⊥

-- The answer is `Disk` and the step reads no view, so the device failed.
abbrev pub IsDeviceFault : Answer → Type 0
IsDeviceFault (answers.Fetch r) = ⊥
IsDeviceFault (answers.Rebuild r) = ⊥
IsDeviceFault (answers.Copy r) = ⊥
IsDeviceFault (answers.EndCopy r) = ⊥
IsDeviceFault answer = IsDiskFault answer

-- The device fails at most once in a step. If it fails, the answer is `Disk`. The answer `Disk` of
-- a step that reads no view means that it failed.
pub record AnswerReportsFailure (before now : ℕ) (answer : Answer) : Type 0 where
  pub later : before ≤ now
  pub once : now ≤ before + 1
  pub told : before < now → IsDiskFault answer
  pub failed : IsDeviceFault answer → before < now

-- No answer is `Disk`.
abbrev pub NoneIsDiskFault : List Answer → Type 0
NoneIsDiskFault = All (λ answer. ¬ (IsDiskFault answer))
