-- Transitions of the primitives, by which the crates above change a store: a log is created,
-- appended to, sealed and published; a key is indexed; a flush restarts and ends; the index is
-- replaced.
use Rattle.std.specs.Prelude.{◌≡◌, ◌≢◌, ◌⊎◌, ℕ, ◌+◌, ◌<◌, ◌≤◌, ◌^◌, Bool, true, false, ◌&&◌, nat_lt, if◌then◌else◌, IsTrue, List}
use Rattle.std.specs.Prelude.{length, take, slice_get, Option, Some, None, IsSome, option_map, Result, Ok, Err}
use Rattle.std.specs.Option.{option_and_then}
use Rattle.std.specs.FinMap as finite
use Rattle.std.specs.declared.cmp.Ordering.TheVariants.{Less}
use Rattle.bk_record.specs.Key.{EntryKey, key_cmp}
use Rattle.bk_record.specs.Location.{Place}
use Rattle.bk_record.specs.Record.{record_of}
use Rattle.bk_record.specs.Files.{Files, file_of}
use Rattle.bk_disk.specs.Disk.{files_after_append}
use Rattle.bk_log.specs.Writing as writers
use Rattle.bk_log.specs.Writing.{WriterCreateTransition}
use Rattle.bk_log.specs.Growing.{SealGains}
use Rattle.bk_log.specs.Sealing.{WriterSealTransition, KeepsEntries, HasMap, map_fits}
use Rattle.bk_log.specs.declared.fault.LogFault.{LogFault}
use Rattle.bk_log.specs.declared.fault.LogFault.TheVariants as log_faults
use Rattle.bk_cache.specs.Caches as caches
use Rattle.bk_record.specs.Keyed.{log_count, Places}
use Rattle.bk_cache.specs.Recents.{Recents, recents_with}
use Rattle.bk_lease.specs.declared.slot.Slot.TheVariants.{Open}
use Rattle.bk_lease.specs.Slots.{IsFree}
use Rattle.bk_lease.specs.Values.{SlotTable, with_state}
use Rattle.bk_store.specs.Entries.{IsIndexOf}
use Rattle.bk_store.specs.Logs.{View, Log, Logs, made_log, log_without_records, unwritten_log, log_after_failed_append, with_view, state_after_restart}
use Rattle.bk_store.specs.Logs.{state_after_flush, AllChanged, is_open, open_parts, HasOpenView, IsHeldIn}
use Rattle.bk_store.specs.Fronts.{fronts_after_flush}
use Rattle.bk_store.specs.Jobs.{Job, with_rebuild}
use Rattle.bk_store.specs.Appending.{next_place, grown_log}
use Rattle.bk_store.specs.State.{State}
use Rattle.bk_store.specs.declared.log.LogState.{LogState}
use Rattle.bk_store.specs.declared.log.LogState.TheVariants.{Writing, Filled, Copying, Readable, Retired, Closed}
use Rattle.bk_store.specs.declared.answer.Appended.{Appended}
use Rattle.bk_store.specs.declared.answer.Appended.TheVariants as appends
use Rattle.bk_store.specs.declared.answer.MakeFault.{MakeFault}
use Rattle.bk_store.specs.declared.answer.MakeFault.TheVariants as makes

-- ---- creating a log

-- a log can be created: a slot is free, and the next id exists
pub record CanCreateLog (s : State) : Type 0 where
  pub room : finite.len s.logs < s.settings.slots
  pub id : s.next < 2 ^ 31

-- the state after an attempt to create the next log, which uses its id
abbrev pub with_next : State → Files → ℕ → Logs → SlotTable → State
with_next s files failures logs keeper = record s { files = files; failures = failures; logs = logs; keeper = keeper; next = s.next + 1 }

-- the table with the next log in a slot
abbrev pub with_seat : State → ℕ → SlotTable
with_seat s slot = with_state s.keeper slot (Open s.next)

-- the next log was created in this state, in a slot that was free
pub record IsMade (s : State) (state : LogState) (t : State) : Type 0 where
  pub slot : ℕ
  pub free : IsFree s.keeper.slots slot
  pub files : IsTrue s.honest → WriterCreateTransition {W = Unit {0}} s.files s.next (Ok tt) t.files
  pub left : t ≡ with_next s t.files s.failures (finite.insert s.logs s.next (made_log state s.next slot)) (with_seat s slot)

-- the logs after a failed creation: the new log is held if its file exists
abbrev pub logs_left : State → Bool → ℕ → Logs
logs_left s made slot = if made then finite.insert s.logs s.next (log_without_records slot) else s.logs

abbrev pub keeper_left : State → Bool → ℕ → SlotTable
keeper_left s made slot = if made then with_seat s slot else s.keeper

-- a failed creation of the next log, with this fault of the log
pub record CreateLogFailed (s : State) (fault : LogFault) (failures : ℕ) (t : State) : Type 0 where
  pub made : Bool
  pub slot : ℕ
  pub free : IsFree s.keeper.slots slot
  pub files : IsTrue s.honest → WriterCreateTransition {W = Unit {0}} s.files s.next (Err (record { made = made; fault = fault })) t.files
  pub left : t ≡ with_next s t.files failures (logs_left s made slot) (keeper_left s made slot)

-- whether the next log can be created; `LogsFull` precedes `NoMoreIds`
abbrev pub CanCreateLogAnswer : State → Result (Unit {0}) MakeFault → Type 0
CanCreateLogAnswer s (Err makes.LogsFull) = s.settings.slots ≤ finite.len s.logs
CanCreateLogAnswer s (Err makes.NoMoreIds) = (finite.len s.logs < s.settings.slots) × (2 ^ 31 ≤ s.next)
CanCreateLogAnswer s (Err makes.Memory) = ⊥
CanCreateLogAnswer s (Err makes.Disk) = ⊥
CanCreateLogAnswer s (Err makes.Odd) = ⊥
CanCreateLogAnswer s (Ok _) = CanCreateLog s

-- a log is held in this state
abbrev pub IsIn : State → ℕ → LogState → Type 0
IsIn s id state = IsHeldIn s.logs id state

-- no log is Writing
abbrev pub HasNoWriting : State → Type 0
HasNoWriting s = (id : ℕ) → ¬ (IsIn s id Writing)

-- the one Writing log, or none
abbrev pub IsWritingLog : State → Option ℕ → Type 0
IsWritingLog s None = HasNoWriting s
IsWritingLog s (Some id) = IsIn s id Writing × ((other : ℕ) → IsIn s other Writing → other ≡ id)

-- The next log is created in a free slot, in this state. `LogsFull` precedes `NoMoreIds`, and both
-- leave the state unchanged.
abbrev pub CreateLogTransition : State → LogState → Result ℕ MakeFault → State → Type 0
CreateLogTransition s state (Err makes.LogsFull) t = (s.settings.slots ≤ finite.len s.logs) × (t ≡ s)
CreateLogTransition s state (Err makes.NoMoreIds) t = (finite.len s.logs < s.settings.slots) × (2 ^ 31 ≤ s.next) × (t ≡ s)
CreateLogTransition s state (Err makes.Memory) t = CanCreateLog s × ((t ≡ s) ⊎ CreateLogFailed s log_faults.Memory s.failures t)
CreateLogTransition s state (Err makes.Disk) t = CanCreateLog s × CreateLogFailed s log_faults.Disk (s.failures + 1) t
CreateLogTransition s state (Err makes.Odd) t = CanCreateLog s × (s.honest ≡ false) × CreateLogFailed s log_faults.Odd s.failures t
CreateLogTransition s state (Ok id) t = CanCreateLog s × (id ≡ s.next) × IsMade s state t

-- ---- appending to a log

-- the writer of a log, none if it is not held or not written
abbrev pub writer_of : Logs → ℕ → Option writers.Writing
writer_of logs id = option_and_then (λ log. log.writer) (finite.get logs id)

-- the log of this id is held, and this is its writer
pub record IsWriter (s : State) (id : ℕ) (log : Log) (w : writers.Writing) : Type 0 where
  pub held : finite.get s.logs id ≡ Some log
  pub writer : log.writer ≡ Some w

-- a log in this state can take the record of a payload: it stays at most 2^32 - 1 bytes long
pub record CanTake (s : State) (id : ℕ) (state : LogState) (payload : List ℕ) : Type 0 where
  pub log : Log
  pub w : writers.Writing
  pub writer : IsWriter s id log w
  pub state_is : log.state ≡ state
  pub room : w.end + 4 + length payload < 2 ^ 32

-- the state with the log of this id changed
abbrev pub with_log : State → Files → ℕ → ℕ → Log → State
with_log s files failures id log = record s { files = files; failures = failures; logs = finite.insert s.logs id log }

-- Appends a record to a log. If the device fails, a part of the record, possibly all, is written,
-- and the log is written no more: the Writing log becomes Filled until the flush restarts, a target
-- log becomes Readable.
abbrev pub AppendRecordTransition : State → ℕ → List ℕ → Result Place LogFault → State → Type 0
AppendRecordTransition s id payload (Ok place) t = (log : Log) × ((w : writers.Writing) × IsWriter s id log w × (place ≡ next_place w)
    × (IsTrue s.honest → t.files ≡ files_after_append s.files id (record_of payload)) × (t ≡ with_log s t.files s.failures id (grown_log log w payload)))
AppendRecordTransition s id payload (Err log_faults.Memory) t = (IsTrue s.honest → t.files ≡ s.files) × (t ≡ record s { files = t.files })
AppendRecordTransition s id payload (Err log_faults.Disk) t = (log : Log) × (finite.get s.logs id ≡ Some log)
    × (IsTrue s.honest → (n : ℕ) × (t.files ≡ files_after_append s.files id (take n (record_of payload))))
    × (t ≡ with_log s t.files (s.failures + 1) id (log_after_failed_append log))
AppendRecordTransition s id payload (Err log_faults.Odd) t = (s.honest ≡ false) × ((log : Log) × (finite.get s.logs id ≡ Some log)
    × (t ≡ with_log s t.files s.failures id (log_after_failed_append log)))
AppendRecordTransition s id payload (Err log_faults.Failed) t = ⊥

-- ---- sealing a log

-- what sealing does to the files: no entry is added or lost; a sealed log has its map, unless that
-- would end past byte 2^32 - 1
pub record IsSealed (s : State) (w : writers.Writing) (result : Result (Unit {0}) LogFault) (files : Files) : Type 0 where
  pub sealed : WriterSealTransition s.files w result files
  pub entries : KeepsEntries s.files files
  pub gains : SealGains s.files w files
  pub mapped : map_fits w ≡ true → result ≡ Ok tt → HasMap (file_of files w.log)

-- how often the device failed in a call with this result
abbrev pub failed_in : {T : Type 0} → Result T LogFault → ℕ
failed_in (Ok _) = 0
failed_in (Err log_faults.Disk) = 1
failed_in (Err log_faults.Failed) = 0
failed_in (Err log_faults.Memory) = 0
failed_in (Err log_faults.Odd) = 0

-- no compaction job has the log
abbrev pub IsIdle : State → ℕ → Type 0
IsIdle s id = (job : Job) → s.job ≡ Some job → (job.source ≢ id) × (job.copy ≢ id)

-- A log may be sealed into this state: the Writing log into Filled, or into Readable if no flush is
-- running; a target log into Readable.
abbrev pub CanSealLog : State → ℕ → LogState → Type 0
CanSealLog s id Filled = IsIn s id Writing
CanSealLog s id Readable = (IsIn s id Copying × IsIdle s id) ⊎ (IsIn s id Writing × (s.caches.flush ≡ None))
CanSealLog s id Writing = ⊥
CanSealLog s id Copying = ⊥
CanSealLog s id Retired = ⊥
CanSealLog s id Closed = ⊥

-- Seals a log, which has this state and is written no more, whatever the result.
pub record SealLogTransition (s : State) (id : ℕ) (state : LogState) (result : Result (Unit {0}) LogFault) (t : State) : Type 0 where
  pub log : Log
  pub w : writers.Writing
  pub writer : IsWriter s id log w
  pub sealed : IsTrue s.honest → IsSealed s w result t.files
  pub never : ¬ (result ≡ Err log_faults.Failed)
  pub odd : result ≡ Err log_faults.Odd → s.honest ≡ false
  pub left : t ≡ with_log s t.files (s.failures + failed_in result) id (unwritten_log state log)

-- ---- publishing a log

-- the log is held and open
pub record IsOpenLog (s : State) (id : ℕ) : Type 0 where
  pub log : Log
  pub held : finite.get s.logs id ≡ Some log
  pub opened : is_open log.state ≡ true

-- an open log that no job has may be published
pub record CanPublishLog (s : State) (id : ℕ) : Type 0 where
  pub open_is : IsOpenLog s id
  pub idle : IsIdle s id

-- Syncs a log, whose whole file is published from then on.
abbrev pub PublishLogTransition : State → ℕ → Result (Unit {0}) LogFault → State → Type 0
PublishLogTransition s id (Ok _) t = (log : Log) × (finite.get s.logs id ≡ Some log) × ((view : View)
    × (IsTrue s.honest → IsTrue view.is_honest × (finite.get s.files id ≡ Some view.bytes))
    × (IsTrue s.honest → t.files ≡ s.files)
    × (t ≡ with_log s t.files s.failures id (with_view view log)))
PublishLogTransition s id (Err log_faults.Disk) t = (IsTrue s.honest → t.files ≡ s.files) × (t ≡ record s { files = t.files; failures = s.failures + 1 })
PublishLogTransition s id (Err log_faults.Memory) t = (IsTrue s.honest → t.files ≡ s.files) × (t ≡ record s { files = t.files })
PublishLogTransition s id (Err log_faults.Odd) t = (s.honest ≡ false) × (t ≡ record s { files = t.files })
PublishLogTransition s id (Err log_faults.Failed) t = ⊥

-- ---- a flush

-- the first entry of the running flush, in key order, that has no place
pub record IsFirstUnplaced (s : State) (key : EntryKey) (payload : List ℕ) : Type 0 where
  pub flushing : finite.get (caches.flush_of s.caches) key ≡ Some payload
  pub unplaced : finite.get s.places key ≡ None
  pub first : (earlier : EntryKey) → key_cmp earlier key ≡ Less → IsSome (finite.get (caches.flush_of s.caches) earlier)
      → IsSome (finite.get s.places earlier)

-- every entry of the flush has a place
abbrev pub AllPlaced : State → Type 0
AllPlaced s = (key : EntryKey) → IsSome (finite.get (caches.flush_of s.caches) key) → IsSome (finite.get s.places key)

-- the next entry of the flush, none if every entry has a place
abbrev pub IsNextEntry : State → Option (EntryKey × List ℕ) → Type 0
IsNextEntry s None = AllPlaced s
IsNextEntry s (Some e) = IsFirstUnplaced s e.0 e.1

-- the log has a record, and one more of this payload would exceed the limit
abbrev pub is_filled : ℕ → writers.Writing → List ℕ → Bool
is_filled limit w payload = nat_lt 0 w.count && nat_lt limit (w.end + 4 + length payload)

-- the Writing log, and whether it is filled for this payload
pub record WritesInto (s : State) (id : ℕ) (payload : List ℕ) (filled : Bool) : Type 0 where
  pub log : Log
  pub w : writers.Writing
  pub writer : IsWriter s id log w
  pub state_is : log.state ≡ Writing
  pub filled_is : is_filled s.settings.log_limit w payload ≡ filled

-- this payload needs a new log: none is Writing, or the Writing log is filled
abbrev pub NeedsLog : State → List ℕ → Option ℕ → Type 0
NeedsLog s payload None = HasNoWriting s
NeedsLog s payload (Some id) = WritesInto s id payload true

-- the entry of this key is the next one of the flush, and the Writing log can take its record
pub record CanAppendFlushed (s : State) (id : ℕ) (key : EntryKey) : Type 0 where
  pub payload : List ℕ
  pub next : IsFirstUnplaced s key payload
  pub takes : CanTake s id Writing payload

-- the state with one more place
abbrev pub state_with_place : State → EntryKey → Place → State
state_with_place s key place = record s { places = finite.insert s.places key place }

-- Appends an entry of the flush to a log, and notes its place on success.
abbrev pub AppendFlushedTransition : State → ℕ → EntryKey → List ℕ → Result Place LogFault → State → Type 0
AppendFlushedTransition s id key payload (Ok place) t = AppendRecordTransition (state_with_place s key place) id payload (Ok place) t
AppendFlushedTransition s id key payload (Err fault) t = AppendRecordTransition s id payload (Err fault) t

-- the next entry of the flush needs a new log
pub record NextNeedsLog (s : State) : Type 0 where
  pub key : EntryKey
  pub payload : List ℕ
  pub next : IsFirstUnplaced s key payload
  pub filled : Option ℕ
  pub needs : NeedsLog s payload filled

-- the next entry of the flush was appended to the Writing log, which is not filled for it, or this
-- append failed
pub record AppendsNext (s : State) (result : Result Place LogFault) (t : State) : Type 0 where
  pub key : EntryKey
  pub payload : List ℕ
  pub next : IsFirstUnplaced s key payload
  pub log : ℕ
  pub into : WritesInto s log payload false
  pub put : AppendFlushedTransition s log key payload result t

-- Appends the next entry of the flush to the Writing log, and notes its place on success. If every
-- entry has a place, or the next one needs a new log, the state is unchanged.
abbrev pub AppendNextTransition : State → Result Appended LogFault → State → Type 0
AppendNextTransition s (Ok appends.AllPlaced) t = AllPlaced s × (t ≡ s)
AppendNextTransition s (Ok appends.NeedsLog) t = NextNeedsLog s × (t ≡ s)
AppendNextTransition s (Ok (appends.At place)) t = AppendsNext s (Ok place) t
AppendNextTransition s (Err fault) t = AppendsNext s (Err fault) t

-- the log is held and open, and its whole file is published
pub record ShowsAll (s : State) (id : ℕ) : Type 0 where
  pub log : Log
  pub view : View
  pub held : finite.get s.logs id ≡ Some log
  pub opened : is_open log.state ≡ true
  pub view_is : log.view ≡ Some view
  pub whole : IsTrue s.honest → finite.get s.files id ≡ Some view.bytes

-- an entry of the flush has this place, in a log whose whole file is published
pub record CanIndexEntry (s : State) (key : EntryKey) (place : Place) : Type 0 where
  pub placed : finite.get s.places key ≡ Some place
  pub shown : ShowsAll s place.log

-- the entry of the flush with this number, in key order, has its place in a log whose whole file is
-- published
pub record CanIndexPlaced (s : State) (number : ℕ) : Type 0 where
  pub key : EntryKey
  pub place : Place
  pub at : slice_get (finite.entries s.places) number ≡ Some (key, place)
  pub shown : ShowsAll s place.log

-- the recent entries after one was flushed: it is remembered, unless out of memory
abbrev pub IsRecentAfter : Recents → EntryKey → List ℕ → Recents → Type 0
IsRecentAfter old key payload new = (new ≡ old) ⊎ (new ≡ recents_with old key payload)

-- Points a key of the flush to its place, and remembers its entry. The caches are unchanged
-- otherwise.
abbrev pub IndexEntryTransition : {E : Type 0} → State → EntryKey → Place → Result (Unit {0}) E → State → Type 0
IndexEntryTransition s key place (Ok _) t = (payload : List ℕ) × (finite.get (caches.flush_of s.caches) key ≡ Some payload)
    × IsRecentAfter s.caches.recent key payload t.caches.recent
    × (t ≡ record s { index = finite.insert s.index key place; caches = record s.caches { recent = t.caches.recent } })
IndexEntryTransition s key place (Err _) t = t ≡ s

-- Points the key of the entry of the flush with this number, in key order, to its place.
pub record IndexPlacedTransition {E : Type 0} (s : State) (number : ℕ) (result : Result (Unit {0}) E) (t : State) : Type 0 where
  pub key : EntryKey
  pub place : Place
  pub at : slice_get (finite.entries s.places) number ≡ Some (key, place)
  pub indexed : IndexEntryTransition s key place result t

-- every entry of the flush is indexed
abbrev pub AllIndexed : State → Type 0
AllIndexed s = (key : EntryKey) → IsSome (finite.get (caches.flush_of s.caches) key) → IsSome (finite.get s.index key)

-- Restarts the flush: its logs are written no more, its places are dropped, its cache is kept.
pub record RestartFlushTransition (s t : State) : Type 0 where
  pub logs : AllChanged state_after_restart s.logs t.logs
  pub left : t ≡ record s { logs = t.logs; places = finite.empty }

-- Ends the flush: its cache is dropped, the logs that it filled become Readable, and what it had is
-- durable.
pub record EndFlushTransition (s t : State) : Type 0 where
  pub logs : AllChanged state_after_flush s.logs t.logs
  pub left : t ≡ record s {
    logs = t.logs;
    places = finite.empty;
    caches = record s.caches { flush = None };
    fronts = fronts_after_flush s.fronts;
  }

-- ---- other logs, and the index

-- A log that no job has may get this state: a target log becomes Readable, a Readable log without
-- index entries Retired.
abbrev pub CanSetLogState : State → ℕ → LogState → Type 0
CanSetLogState s id Readable = IsIn s id Copying × IsIdle s id
CanSetLogState s id Retired = IsIn s id Readable × (log_count s.index id ≡ 0) × IsIdle s id
CanSetLogState s id Closed = ⊥
CanSetLogState s id Writing = ⊥
CanSetLogState s id Filled = ⊥
CanSetLogState s id Copying = ⊥

-- Sets the state of a log, which is written no more.
abbrev pub SetLogStateTransition : State → ℕ → LogState → State → Type 0
SetLogStateTransition s id state t = (log : Log) × (finite.get s.logs id ≡ Some log)
    × (t ≡ record s { logs = finite.insert s.logs id (unwritten_log state log) })

-- a rebuilt index: of all entries in the published parts of open logs, and it points only into logs
-- with a view
pub record CanReplaceIndex (s : State) (index : Places) : Type 0 where
  pub made : IsTrue s.honest → IsIndexOf (open_parts s.logs) s.ledgers.dead index
  pub sent : (key : EntryKey) (place : Place) → finite.get index key ≡ Some place → HasOpenView s.logs place.log

-- Replaces the index. A running job notes the rebuild.
abbrev pub ReplaceIndexTransition : State → Places → State → Type 0
ReplaceIndexTransition s index t = t ≡ record s { index = index; job = option_map with_rebuild s.job }
