-- Transitions of a flush: its next entry is written, it is published, its log is rolled. Read
-- `WriteOneTransition`, `PublishTransition` and `RollTransition` first.
use Rattle.std.specs.Prelude.{◌≡◌, ◌⊎◌, ℕ, ◌+◌, ◌≤◌, ◌<◌, ◌^◌, false, List, [], ◌∷◌}
use Rattle.std.specs.Prelude.{take, Option, Some, None, IsSome, Result, Ok, Err, IsTrue}
use Rattle.std.specs.Option.{option_or}
use Rattle.std.specs.FinMap as finite
use Rattle.bk_record.specs.Key.{EntryKey, key_cmp}
use Rattle.bk_record.specs.Location.{Place}
use Rattle.bk_record.specs.Scan.{Payloads}
use Rattle.bk_log.specs.Writing as writers
use Rattle.bk_log.specs.declared.fault.LogFault.{LogFault}
use Rattle.bk_cache.specs.Caches.{flush_of}
use Rattle.bk_cache.specs.Recents.{Recents}
use Rattle.bk_store.specs.Logs.{View, Log, with_view}
use Rattle.bk_store.specs.State.{State}
use Rattle.bk_store.specs.Primitives.{CanCreateLog, CreateLogTransition, IsIn, HasNoWriting, IsWriter, WritesInto, NeedsLog, SealLogTransition}
use Rattle.bk_store.specs.Primitives.{IsFirstUnplaced, AllPlaced, AppendFlushedTransition, AppendsNext, AppendNextTransition}
use Rattle.bk_store.specs.Primitives.{IsRecentAfter, RestartFlushTransition, EndFlushTransition}
use Rattle.bk_store.specs.declared.answer.Appended.{Appended}
use Rattle.bk_store.specs.declared.log.LogState.TheVariants.{Writing, Filled, Readable}
use Rattle.bk_store.specs.declared.answer.MakeFault.{MakeFault}
use Rattle.bk_store.specs.Frame.{CachesUnchanged}
use Rattle.bk_store.specs.Fronts.{fronts_after_flush}
use Rattle.bk_store.specs.Faults.{step_fault_of, step_fault_of_make}
use Rattle.bk_flush.specs.declared.answer.WriteAnswer.{WriteAnswer}
use Rattle.bk_flush.specs.declared.answer.WriteAnswer.TheVariants as writes
use Rattle.bk_flush.specs.declared.answer.PublishAnswer.{PublishAnswer}
use Rattle.bk_flush.specs.declared.answer.PublishAnswer.TheVariants as publishes
use Rattle.bk_flush.specs.declared.answer.RollAnswer.{RollAnswer}
use Rattle.bk_flush.specs.declared.answer.RollAnswer.TheVariants as rolls
use Rattle.bk_store.specs.declared.step_fault.StepFault.{StepFault}
use Rattle.bk_store.specs.declared.step_fault.StepFault.TheVariants as step_faults

-- ---- faults

-- Effect of a failed write or seal on the running flush: an I/O error restarts it, any other fault leaves
-- it unchanged.
abbrev pub RestartsOnDeviceFault : StepFault → State → State → Type 0
RestartsOnDeviceFault step_faults.Disk s t = RestartFlushTransition s t
RestartsOnDeviceFault (step_faults.Memory done) s t = t ≡ s
RestartsOnDeviceFault step_faults.LogsFull s t = t ≡ s
RestartsOnDeviceFault step_faults.NoMoreIds s t = t ≡ s
RestartsOnDeviceFault step_faults.Odd s t = RestartFlushTransition s t

-- the flush goes on, unless the disk has lost a log of it; an honest disk loses none
abbrev pub StaysUnlessLost : State → State → Type 0
StaysUnlessLost s t = (t ≡ s) ⊎ ((s.honest ≡ false) × RestartFlushTransition s t)

-- effect of a failed publish on the running flush
abbrev pub RestartsIfLost : StepFault → State → State → Type 0
RestartsIfLost step_faults.Disk s t = StaysUnlessLost s t
RestartsIfLost (step_faults.Memory done) s t = t ≡ s
RestartsIfLost step_faults.LogsFull s t = t ≡ s
RestartsIfLost step_faults.NoMoreIds s t = t ≡ s
RestartsIfLost step_faults.Odd s t = StaysUnlessLost s t

-- ---- the current log

-- the filled log, if there is one, is sealed
abbrev pub SealFilledTransition : State → Option ℕ → Result (Unit {0}) LogFault → State → Type 0
SealFilledTransition s None (Ok _) t = t ≡ s
SealFilledTransition s None (Err fault) t = ⊥
SealFilledTransition s (Some id) result t = SealLogTransition s id Filled result t

-- the next log replaces the filled one
pub record NewLog (s : State) (payload : List ℕ) (id : ℕ) (t : State) : Type 0 where
  pub filled : Option ℕ
  pub needs : NeedsLog s payload filled
  pub may : CanCreateLog s
  pub mid : State
  pub sealed : SealFilledTransition s filled (Ok tt) mid
  pub made : CreateLogTransition mid Writing (Ok id) t

-- sealing the filled log failed, or creating the next one did
abbrev pub IsRefused : State → Option ℕ → StepFault → State → Type 0
IsRefused s filled fault t = ((cause : LogFault) × (fault ≡ step_fault_of cause) × SealFilledTransition s filled (Err cause) t)
    ⊎ ((mid : State) × SealFilledTransition s filled (Ok tt) mid × ((cause : MakeFault) × (fault ≡ step_fault_of_make cause) × CreateLogTransition mid Writing (Err cause) t))

-- no log was made ready, because of this fault
pub record NoNewLog (s : State) (payload : List ℕ) (fault : StepFault) (t : State) : Type 0 where
  pub filled : Option ℕ
  pub needs : NeedsLog s payload filled
  pub may : CanCreateLog s
  pub mid : State
  pub refused : IsRefused s filled fault mid
  pub left : RestartsOnDeviceFault fault mid t

-- A log that takes this payload is found or created. `LogsFull` precedes `NoMoreIds`, and both
-- leave the state unchanged.
abbrev pub ReadyLogTransition : State → List ℕ → Result ℕ StepFault → State → Type 0
ReadyLogTransition s payload (Ok id) t = (WritesInto s id payload false × (t ≡ s)) ⊎ NewLog s payload id t
ReadyLogTransition s payload (Err step_faults.LogsFull) t = (filled : Option ℕ) × NeedsLog s payload filled × (s.settings.slots ≤ finite.len s.logs) × (t ≡ s)
ReadyLogTransition s payload (Err step_faults.NoMoreIds) t = (filled : Option ℕ) × NeedsLog s payload filled
    × (finite.len s.logs < s.settings.slots) × (2 ^ 31 ≤ s.next) × (t ≡ s)
ReadyLogTransition s payload (Err step_faults.Disk) t = NoNewLog s payload step_faults.Disk t
ReadyLogTransition s payload (Err (step_faults.Memory done)) t = NoNewLog s payload (step_faults.Memory done) t
ReadyLogTransition s payload (Err step_faults.Odd) t = NoNewLog s payload step_faults.Odd t

-- the one Writing log has no record
pub record IsNewLog (s : State) (id : ℕ) : Type 0 where
  pub log : Log
  pub w : writers.Writing
  pub writer : IsWriter s id log w
  pub state_is : log.state ≡ Writing
  pub empty : w.count ≡ 0
  pub only : (other : ℕ) → IsIn s other Writing → other ≡ id

-- ---- writing the next entry

-- The next entry is appended, if the Writing log takes it. An I/O error restarts the flush.
abbrev pub AppendTransition : State → Result Appended StepFault → State → Type 0
AppendTransition s (Ok appended) t = AppendNextTransition s (Ok appended) t
AppendTransition s (Err fault) t = (cause : LogFault) × (fault ≡ step_fault_of cause)
    × ((mid : State) × AppendsNext s (Err cause) mid × RestartsOnDeviceFault fault mid t)

-- the entry is appended to the log that was made ready
pub record PutsNext (s : State) (payload : List ℕ) (key : EntryKey) (place : Place) (t : State) : Type 0 where
  pub log : ℕ
  pub mid : State
  pub ready : ReadyLogTransition s payload (Ok log) mid
  pub put : AppendFlushedTransition mid log key payload (Ok place) t

-- a log was made ready, and the append failed
pub record NotPut (s : State) (payload : List ℕ) (key : EntryKey) (fault : StepFault) (t : State) : Type 0 where
  pub log : ℕ
  pub mid : State
  pub ready : ReadyLogTransition s payload (Ok log) mid
  pub cause : LogFault
  pub told_so : fault ≡ step_fault_of cause
  pub refused : State
  pub put : AppendFlushedTransition mid log key payload (Err cause) refused
  pub left : RestartsOnDeviceFault fault refused t

-- Writes the first entry of the flush that has no place.
abbrev pub WriteOneTransition : State → Result WriteAnswer StepFault → State → Type 0
WriteOneTransition s (Ok writes.NoFlush) t = (s.caches.flush ≡ None) × (t ≡ s)
WriteOneTransition s (Ok writes.AllWritten) t = IsSome s.caches.flush × AllPlaced s × (t ≡ s)
WriteOneTransition s (Ok (writes.Wrote place)) t = (key : EntryKey) × ((payload : List ℕ) × IsFirstUnplaced s key payload × PutsNext s payload key place t)
WriteOneTransition s (Err fault) t = (key : EntryKey) × ((payload : List ℕ) × IsFirstUnplaced s key payload
    × (ReadyLogTransition s payload (Err fault) t ⊎ NotPut s payload key fault t))

-- ---- publishing

-- an entry of the flush has a place in the log
abbrev pub HasPlace : State → ℕ → Type 0
HasPlace s id = (key : EntryKey) × ((place : Place) × (finite.get s.places key ≡ Some place) × (place.log ≡ id))

-- the whole file of the log is published
pub record IsShown (s : State) (id : ℕ) (t : State) : Type 0 where
  pub log : Log
  pub view : View
  pub held : finite.get s.logs id ≡ Some log
  pub now : finite.get t.logs id ≡ Some (with_view view log)
  pub honest : IsTrue s.honest → IsTrue view.is_honest
  pub whole : IsTrue s.honest → finite.get s.files id ≡ Some view.bytes

-- Exactly the logs of these ids are published; the others are unchanged.
pub record ShowsThose (Those : ℕ → Type 0) (s t : State) : Type 0 where
  pub shown : (id : ℕ) → Those id → IsShown s id t
  pub others : (id : ℕ) → ¬ (Those id) → finite.get t.logs id ≡ finite.get s.logs id
  pub files : IsTrue s.honest → t.files ≡ s.files
  pub left : t ≡ record s { files = t.files; failures = t.failures; logs = t.logs }

-- Each log that has a place is published.
pub record ShowsPlaced (s t : State) : Type 0 where
  pub all : ShowsThose (HasPlace s) s t
  pub failures : t.failures ≡ s.failures

-- The logs that have a place are published by rising id, up to one that fails. The device failed
-- `failed` times.
pub record StopsShowing (s : State) (failed : ℕ) (t : State) : Type 0 where
  pub refused : ℕ
  pub has : HasPlace s refused
  pub before : ShowsThose (λ id. HasPlace s id × (id < refused)) s t
  pub failures : t.failures ≡ s.failures + failed

-- The same, up to a log at which the device failed. The flush goes on with its places, unless the
-- disk has lost a log of it.
pub record FailsShowing (s : State) (failed : ℕ) (t : State) : Type 0 where
  pub mid : State
  pub stops : StopsShowing s failed mid
  pub stays : StaysUnlessLost mid t

-- the places of the first `done` entries of the flush, by key
abbrev pub first_places : ℕ → State → List (EntryKey × Place)
first_places done s = take done (finite.entries s.places)

-- These entries of the flush are remembered as recent ones, in order. An entry whose allocation
-- fails is not.
abbrev pub Remembers : Payloads → List (EntryKey × Place) → Recents → Recents → Type 0
Remembers flush [] old new = new ≡ old
Remembers flush (e ∷ es) old new = (payload : List ℕ) × (finite.get flush e.0 ≡ Some payload)
    × ((mid : Recents) × IsRecentAfter old e.0 payload mid × Remembers flush es mid new)

-- The first `done` entries of the flush are in the index, each at its place, and are remembered.
-- Every other key is unchanged.
pub record NamesFirst (done : ℕ) (s t : State) : Type 0 where
  pub index : (key : EntryKey) → finite.get t.index key ≡ option_or (finite.find key_cmp key (first_places done s)) (finite.get s.index key)
  pub recent : Remembers (flush_of s.caches) (first_places done s) s.caches.recent t.caches.recent
  pub left : t ≡ record s { index = t.index; caches = record s.caches { recent = t.caches.recent } }

-- every log that has a place is published, then the first `done` entries are indexed
pub record Publishes (s : State) (done : ℕ) (t : State) : Type 0 where
  pub mid : State
  pub shown : ShowsPlaced s mid
  pub named : NamesFirst done mid t

-- a flush is running, and each entry of it has a place
pub record IsWritten (s : State) : Type 0 where
  pub runs : IsSome s.caches.flush
  pub placed : AllPlaced s

-- A publish publishes each log that has a place, adds each entry to the index, and ends the flush.
-- An error leaves the flush running with all its entries; a later publish begins anew, and adds an
-- entry again at the same place. Only a disk that lost a log of the flush, and so is not honest,
-- restarts it.
abbrev pub PublishTransition : State → Result PublishAnswer StepFault → State → Type 0
PublishTransition s (Ok publishes.NoFlush) t = (s.caches.flush ≡ None) × (t ≡ s)
PublishTransition s (Ok publishes.NotAllWritten) t = (key : EntryKey) × ((payload : List ℕ) × IsFirstUnplaced s key payload × (t ≡ s))
PublishTransition s (Ok (publishes.Published n)) t = IsWritten s × (n ≡ finite.len (flush_of s.caches)) × ((mid : State) × Publishes s n mid × EndFlushTransition mid t)
PublishTransition s (Err step_faults.Disk) t = IsWritten s × FailsShowing s 1 t
PublishTransition s (Err (step_faults.Memory done)) t = IsWritten s
    × (((done ≡ 0) × StopsShowing s 0 t) ⊎ ((done < finite.len (flush_of s.caches)) × Publishes s done t))
PublishTransition s (Err step_faults.Odd) t = IsWritten s × (s.honest ≡ false) × FailsShowing s 0 t
PublishTransition s (Err step_faults.LogsFull) t = ⊥
PublishTransition s (Err step_faults.NoMoreIds) t = ⊥

-- `Published` empties the flushing cache, whose entries are durable from then on; every other result
-- leaves the write caches and the fronts unchanged.
abbrev pub PublishCachesFrame : State → Result PublishAnswer StepFault → State → Type 0
PublishCachesFrame s (Ok (publishes.Published n)) t = (t.caches.active ≡ s.caches.active) × (t.caches.flush ≡ None) × (t.fronts ≡ fronts_after_flush s.fronts)
PublishCachesFrame s _ t = CachesUnchanged s t

-- ---- rolling

-- A roll seals the Writing log, unless a flush is running. The log becomes Readable, also on an
-- error.
abbrev pub RollTransition : State → Result RollAnswer StepFault → State → Type 0
RollTransition s (Ok rolls.FlushRunning) t = IsSome s.caches.flush × (t ≡ s)
RollTransition s (Ok rolls.NothingOpen) t = (s.caches.flush ≡ None) × HasNoWriting s × (t ≡ s)
RollTransition s (Ok (rolls.Sealed id)) t = (s.caches.flush ≡ None) × IsIn s id Writing × SealLogTransition s id Readable (Ok tt) t
RollTransition s (Err fault) t = (s.caches.flush ≡ None) × ((id : ℕ) × ((cause : LogFault) × IsIn s id Writing
    × (fault ≡ step_fault_of cause) × SealLogTransition s id Readable (Err cause) t))
