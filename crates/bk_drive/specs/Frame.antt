-- Frame conditions of a step of the store alone, by its answer: slots, write caches, failure count.
use Rattle.std.specs.Prelude.{◌≡◌, IsErrOf, IsTrue, Ok}
use Rattle.bk_disk.specs.Disk.{FailsExactlyIf}
use Rattle.bk_store.specs.State.{State}
use Rattle.bk_store.specs.Contents.{SameContents}
use Rattle.bk_store.specs.Transitions.{SwapTransition}
use Rattle.bk_store.specs.Frame.{CachesUnchanged, SlotsUnchanged}
use Rattle.bk_store.specs.Faults.{ReportsDeviceFault}
use Rattle.bk_flush.specs.Flushing.{PublishCachesFrame}
use Rattle.bk_collect.specs.declared.answer.CloseAnswer.TheVariants.{Closed}
use Rattle.bk_collect.specs.declared.answer.RemoveAnswer.TheVariants.{Removed}
use Rattle.bk_collect.specs.declared.answer.CollectFault.TheVariants as collect_faults
use Rattle.bk_compact.specs.Compacting.{BoundsDeviceFaults}
use Rattle.bk_drive.specs.declared.step.Answer.{Answer}
use Rattle.bk_drive.specs.declared.step.Answer.TheVariants as answers

-- Every taken slot is unchanged, unless the answer is Closed or Removed.
abbrev pub SlotsFrame : State → Answer → State → Type 0
SlotsFrame s (answers.Close r) t = ¬ (r ≡ Closed) → SlotsUnchanged s.keeper t.keeper
SlotsFrame s (answers.Remove r) t = ¬ (r ≡ Ok Removed) → SlotsUnchanged s.keeper t.keeper
SlotsFrame s _ t = SlotsUnchanged s.keeper t.keeper

-- The write caches and the fronts are unchanged, except by a swap and a publish. On an honest disk the logical
-- contents are unchanged.
abbrev pub CachesFrame : State → Answer → State → Type 0
CachesFrame s (answers.Swap r) t = SwapTransition s r t
CachesFrame s (answers.Publish r) t = PublishCachesFrame s r t × (IsTrue s.honest → SameContents s t)
CachesFrame s _ t = CachesUnchanged s t × (IsTrue s.honest → SameContents s t)

-- How often the device failed during the step, as its answer reports it.
abbrev pub FailureCountByAnswer : State → Answer → State → Type 0
FailureCountByAnswer s (answers.Write r) t = ReportsDeviceFault s r t
FailureCountByAnswer s (answers.Publish r) t = ReportsDeviceFault s r t
FailureCountByAnswer s (answers.Roll r) t = ReportsDeviceFault s r t
FailureCountByAnswer s (answers.Remove r) t = FailsExactlyIf s.failures t.failures (IsErrOf r collect_faults.Disk)
FailureCountByAnswer s (answers.Begin r) t = ReportsDeviceFault s r t
FailureCountByAnswer s (answers.Copy r) t = BoundsDeviceFaults s r t
FailureCountByAnswer s (answers.EndCopy r) t = BoundsDeviceFaults s r t
FailureCountByAnswer s _ t = t.failures ≡ s.failures
