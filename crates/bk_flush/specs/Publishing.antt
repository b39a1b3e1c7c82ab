-- The two phases of a publish: logs are published, then entries are indexed.
use Rattle.std.specs.Prelude.{◌≡◌, ◌<◌, false, Some, Result, Ok, Err}
use Rattle.std.specs.FinMap as finite
use Rattle.bk_record.specs.Key.{EntryKey}
use Rattle.bk_record.specs.Location.{Place}
use Rattle.bk_store.specs.State.{State}
use Rattle.bk_store.specs.Primitives.{ShowsAll}
use Rattle.bk_flush.specs.Flushing.{NamesFirst, ShowsPlaced, StopsShowing, FailsShowing}
use Rattle.bk_store.specs.declared.step_fault.StepFault.{StepFault}
use Rattle.bk_store.specs.declared.step_fault.StepFault.TheVariants as step_faults

-- Each log that has a place is published. An error leaves those with lower ids published.
abbrev pub ShowsLogs : State → Result (Unit {0}) StepFault → State → Type 0
ShowsLogs s (Ok _) t = ShowsPlaced s t
ShowsLogs s (Err step_faults.Disk) t = FailsShowing s 1 t
ShowsLogs s (Err (step_faults.Memory done)) t = (done ≡ 0) × StopsShowing s 0 t
ShowsLogs s (Err step_faults.Odd) t = (s.honest ≡ false) × FailsShowing s 0 t
ShowsLogs s (Err step_faults.LogsFull) t = ⊥
ShowsLogs s (Err step_faults.NoMoreIds) t = ⊥

-- each place is in a log whose whole file is published
abbrev pub AllShown : State → Type 0
AllShown s = (key : EntryKey) (place : Place) → finite.get s.places key ≡ Some place → ShowsAll s place.log

-- Each entry is indexed. Out of memory leaves the first `done` entries indexed.
abbrev pub NamesEntries : State → Result (Unit {0}) StepFault → State → Type 0
NamesEntries s (Ok _) t = NamesFirst (finite.len s.places) s t
NamesEntries s (Err step_faults.Disk) t = ⊥
NamesEntries s (Err (step_faults.Memory done)) t = (done < finite.len s.places) × NamesFirst done s t
NamesEntries s (Err step_faults.Odd) t = ⊥
NamesEntries s (Err step_faults.LogsFull) t = ⊥
NamesEntries s (Err step_faults.NoMoreIds) t = ⊥
