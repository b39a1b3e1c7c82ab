-- Transitions of a collection: a log is retired, then closed, then removed; the index is rebuilt
-- from the published parts of the logs.
use Rattle.std.specs.Prelude.{◌≡◌, ◌⊎◌, ℕ, ◌≤◌, false, if◌then◌else◌, Option, Some, None, Result, Ok, Err}
use Rattle.std.specs.Option.{option_and_then}
use Rattle.std.specs.FinMap as finite
use Rattle.bk_record.specs.Keyed.{log_count, Places}
use Rattle.bk_log.specs.declared.fault.LogFault.TheVariants as log_faults
use Rattle.bk_store.specs.Logs.{View, Logs, is_open}
use Rattle.bk_store.specs.State.{State}
use Rattle.bk_store.specs.CompactionPrimitives as copying
use Rattle.bk_store.specs.Primitives.{IsIdle, IsIn, IsOpenLog, CanReplaceIndex, ReplaceIndexTransition, SetLogStateTransition}
use Rattle.bk_store.specs.Jobs.{Job}
use Rattle.bk_store.specs.Leasing as leasing
use Rattle.bk_store.specs.Leasing.{IsLeased}
use Rattle.bk_store.specs.declared.log.LogState.TheVariants.{Writing, Filled, Copying, Readable, Retired, Closed}
use Rattle.bk_collect.specs.declared.answer.RetireAnswer.{RetireAnswer}
use Rattle.bk_collect.specs.declared.answer.RetireAnswer.TheVariants as retires
use Rattle.bk_collect.specs.declared.answer.CloseAnswer.{CloseAnswer}
use Rattle.bk_collect.specs.declared.answer.CloseAnswer.TheVariants as closes
use Rattle.bk_collect.specs.declared.answer.RemoveAnswer.{RemoveAnswer}
use Rattle.bk_collect.specs.declared.answer.RemoveAnswer.TheVariants as removes
use Rattle.bk_collect.specs.declared.answer.CollectFault.{CollectFault}
use Rattle.bk_collect.specs.declared.answer.CollectFault.TheVariants as faults

-- ---- retiring

-- the log is the source log or the target log of the running compaction
abbrev pub IsCompacted : State → ℕ → Type 0
IsCompacted s id = (job : Job) × (s.job ≡ Some job) × ((job.source ≡ id) ⊎ (job.copy ≡ id))

-- a flush or a compaction writes the log or has yet to publish it, or the running compaction copies
-- from it
abbrev pub IsInUse : State → ℕ → Type 0
IsInUse s id = IsIn s id Writing ⊎ (IsIn s id Filled ⊎ (IsIn s id Copying ⊎ (IsIn s id Readable × IsCompacted s id)))

-- the index may no longer point into the log
abbrev pub IsPast : State → ℕ → Type 0
IsPast s id = IsIn s id Retired ⊎ IsIn s id Closed

-- the log is written no more, and no compaction has it
abbrev pub IsOnlyRead : State → ℕ → Type 0
IsOnlyRead s id = IsIn s id Readable × IsIdle s id

-- A log that no index entry points into becomes Retired. A log that is Retired or Closed already is
-- unchanged, and so is a log that is in use or has index entries.
abbrev pub RetireTransition : State → ℕ → RetireAnswer → State → Type 0
RetireTransition s id retires.NoLog t = (finite.get s.logs id ≡ None) × (t ≡ s)
RetireTransition s id retires.InUse t = IsInUse s id × (t ≡ s)
RetireTransition s id (retires.StillNamed n) t = IsOnlyRead s id × (n ≡ log_count s.index id) × (1 ≤ n) × (t ≡ s)
RetireTransition s id (retires.Retired log) t = (log ≡ id)
    × ((IsPast s id × (t ≡ s)) ⊎ (IsOnlyRead s id × (log_count s.index id ≡ 0) × SetLogStateTransition s id Retired t))

-- ---- closing

-- A Retired log becomes Closed if no lease of it is out; otherwise the result is the number of its
-- leases. A Closed log is unchanged, and no other log is closed.
abbrev pub CloseTransition : State → ℕ → CloseAnswer → State → Type 0
CloseTransition s id closes.NoLog t = (finite.get s.logs id ≡ None) × (t ≡ s)
CloseTransition s id closes.NotRetired t = IsOpenLog s id × (t ≡ s)
CloseTransition s id (closes.Leased n) t = IsIn s id Retired × IsLeased s.keeper s.logs id n × (t ≡ s)
CloseTransition s id closes.Closed t = (IsIn s id Closed × (t ≡ s)) ⊎ (IsIn s id Retired × leasing.CloseLogTransition s id (Ok tt) t)

-- ---- removing

-- the log is held and is not closed to leases
abbrev pub IsUnclosed : State → ℕ → Type 0
IsUnclosed s id = IsOpenLog s id ⊎ IsIn s id Retired

-- A Closed log is removed with its file; no other log is. An error leaves the log and its file.
abbrev pub RemoveTransition : State → ℕ → Result RemoveAnswer CollectFault → State → Type 0
RemoveTransition s id (Ok removes.NoLog) t = (finite.get s.logs id ≡ None) × (t ≡ s)
RemoveTransition s id (Ok removes.NotClosed) t = IsUnclosed s id × (t ≡ s)
RemoveTransition s id (Ok removes.Removed) t = IsIn s id Closed × copying.RemoveLogTransition s id (Ok tt) t
RemoveTransition s id (Err faults.Disk) t = IsIn s id Closed × copying.RemoveLogTransition s id (Err log_faults.Disk) t
RemoveTransition s id (Err faults.Memory) t = IsIn s id Closed × copying.RemoveLogTransition s id (Err log_faults.Memory) t
RemoveTransition s id (Err (faults.Log log cause)) t = ⊥
RemoveTransition s id (Err faults.Odd) t = IsIn s id Closed × copying.RemoveLogTransition s id (Err log_faults.Odd) t

-- ---- rebuilding

-- the last view of a log, if the log is open
abbrev pub open_view : Logs → ℕ → Option View
open_view logs id = option_and_then (λ log. if is_open log.state then log.view else None) (finite.get logs id)

-- the last view of an open log cannot be read
abbrev pub HasUnsoundView : State → Type 0
HasUnsoundView s = (id : ℕ) × ((view : View) × (open_view s.logs id ≡ Some view) × (view.is_sound ≡ false))

-- why the index could not be rebuilt
abbrev pub RebuildFails : State → CollectFault → Type 0
RebuildFails s faults.Disk = HasUnsoundView s
RebuildFails s faults.Memory = Unit {0}
RebuildFails s (faults.Log id cause) = s.honest ≡ false
RebuildFails s faults.Odd = s.honest ≡ false

-- The store has a new index of n keys: that of all entries in the published parts of open logs,
-- without the deleted ledgers. An error leaves the store unchanged.
abbrev pub RebuildTransition : State → Result ℕ CollectFault → State → Type 0
RebuildTransition s (Ok n) t = (index : Places) × CanReplaceIndex s index × (n ≡ finite.len index) × ReplaceIndexTransition s index t
RebuildTransition s (Err fault) t = RebuildFails s fault × (t ≡ s)
