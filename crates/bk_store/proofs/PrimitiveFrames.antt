-- What the calls of a store leave of which steps are made.
use Rattle.std.proofs.Common.{◌≡◌, inl, inr, ℕ, List, Bool, true, false, Option, Result, Ok, Err, refl}
use Rattle.bk_record.specs.Files.{Files}
use Rattle.bk_record.specs.Key.{EntryKey}
use Rattle.bk_record.specs.Location.{Place}
use Rattle.bk_lease.specs.Slots.{IsFree}
use Rattle.bk_lease.specs.Values.{SlotTable}
use Rattle.bk_log.specs.declared.fault.LogFault.{LogFault}
use Rattle.bk_log.specs.declared.fault.LogFault.TheVariants as log_faults
use Rattle.std.specs.FinMap as finite
use Rattle.bk_store.specs.Logs.{state_after_restart, made_log, log_without_records}
use Rattle.bk_store.specs.State.{State}
use Rattle.bk_store.specs.Jobs.{Job}
use Rattle.bk_store.specs.CompactionPrimitives.{RelocateTransition}
use Rattle.bk_store.specs.Primitives.{IsMade, CreateLogFailed, CreateLogTransition, AppendRecordTransition, AppendFlushedTransition, SetLogStateTransition, PublishLogTransition, SealLogTransition, RestartFlushTransition, keeper_left, logs_left, state_with_place, with_next}
use Rattle.bk_store.specs.Primitives.{with_seat}
use Rattle.bk_store.specs.declared.log.LogState.{LogState}
use Rattle.bk_store.specs.declared.answer.MakeFault.{MakeFault}
use Rattle.bk_store.specs.declared.answer.MakeFault.TheVariants as makes
use Rattle.bk_store.specs.Frame.{SlotsUnchanged, FrameUnchanged}
use Rattle.bk_store.proofs.RemovedLogs.{GoneStays, gone_made, gone_unmade}
use Rattle.bk_store.proofs.FrameLemmas.{slots_same, slots_opened, still_as, still_same, then, still_beside, still_log, still_ruled}

pub job_still : (s t : State) (job : Option Job) → t ≡ record s { job = job } → FrameUnchanged s t
job_still s t job is = still_beside s t _ _ _ _ _ is

-- ---- a log that is made

-- a slot that was free is opened for the log whose file is
left_slots : (s : State) (made : Bool) (slot : ℕ) → IsFree s.keeper.slots slot → SlotsUnchanged s.keeper (keeper_left s made slot)
left_slots s true slot free = slots_opened s.keeper slot _ free.1
left_slots s false slot free = slots_same s.keeper s.keeper refl

left_gone : (s : State) (files : Files) (failures : ℕ) (made : Bool) (slot : ℕ) (keeper : SlotTable)
    → GoneStays s (with_next s files failures (logs_left s made slot) keeper)
left_gone s files failures true slot keeper = gone_made s (with_next s files failures (logs_left s true slot) keeper) (log_without_records slot) refl refl
left_gone s files failures false slot keeper = gone_unmade s (with_next s files failures s.logs keeper) refl refl

unmade_still : (s t : State) {fault : LogFault} {failures : ℕ} → CreateLogFailed s fault failures t → FrameUnchanged s t
unmade_still s t {failures = failures} unmade =
    still_as ((
      record {
        settings = refl;
        ledgers = refl;
        gone = left_gone s t.files failures unmade.made unmade.slot (keeper_left s unmade.made unmade.slot);
      },
      record { active = refl; flush = refl; fronts = refl },
      left_slots s unmade.made unmade.slot unmade.free,
    )) t unmade.left

made_still : (s t : State) {state : LogState} → IsMade s state t → FrameUnchanged s t
made_still s t {state = state} made =
    still_as ((
      record {
        settings = refl;
        ledgers = refl;
        gone = gone_made s (with_next s t.files s.failures (finite.insert s.logs s.next (made_log state s.next made.slot)) (with_seat s made.slot)) _ refl refl;
      },
      record { active = refl; flush = refl; fronts = refl },
      slots_opened s.keeper made.slot _ made.free.1,
    )) t made.left

pub make_still : (s t : State) (state : LogState) (r : Result ℕ MakeFault) → CreateLogTransition s state r t → FrameUnchanged s t
make_still s t state (Err makes.LogsFull) turn = still_same s t turn.1
make_still s t state (Err makes.NoMoreIds) turn = still_same s t turn.2
make_still s t state (Err makes.Memory) turn = elim turn.1 [ inl same ↦ still_same s t same | inr unmade ↦ unmade_still s t unmade ]
make_still s t state (Err makes.Disk) turn = unmade_still s t turn.1
make_still s t state (Err makes.Odd) turn = unmade_still s t turn.2
make_still s t state (Ok id) turn = made_still s t turn.2

-- ---- a log that is written

pub put_still : (s t : State) (id : ℕ) (payload : List ℕ) (r : Result Place LogFault) → AppendRecordTransition s id payload r t → FrameUnchanged s t
put_still s t id payload (Ok place) turn = still_log s t _ _ id turn.0 _ turn.1.1.held turn.1.4
put_still s t id payload (Err log_faults.Memory) turn = still_beside s t _ _ _ _ _ turn.1
put_still s t id payload (Err log_faults.Disk) turn = still_log s t _ _ id turn.0 _ turn.1 turn.3
put_still s t id payload (Err log_faults.Odd) turn = still_log s t _ _ id turn.1.0 _ turn.1.1 turn.1.2
put_still s t id payload (Err log_faults.Failed) turn = absurd turn

pub write_still : (s t : State) (id : ℕ) (key : EntryKey) (payload : List ℕ) (r : Result Place LogFault) → AppendFlushedTransition s id key payload r t → FrameUnchanged s t
write_still s t id key payload (Ok place) turn =
    then (still_beside s (state_with_place s key place) _ _ _ _ _ refl) (put_still (state_with_place s key place) t id payload (Ok place) turn)
write_still s t id key payload (Err fault) turn = put_still s t id payload (Err fault) turn

pub seals_still : {s t : State} {id : ℕ} {state : LogState} {r : Result (Unit {0}) LogFault} → SealLogTransition s id state r t → FrameUnchanged s t
seals_still {s = s} {t = t} {id = id} seals = still_log s t _ _ id seals.log _ seals.writer.held seals.left

pub restarts_still : {s t : State} → RestartFlushTransition s t → FrameUnchanged s t
restarts_still {s = s} {t = t} restarts = still_ruled s t _ state_after_restart restarts.logs restarts.left

-- ---- a log that is published, or comes into another state

pub show_still : (s t : State) (id : ℕ) (r : Result (Unit {0}) LogFault) → PublishLogTransition s id r t → FrameUnchanged s t
show_still s t id (Ok _) turn = still_log s t _ _ id turn.0 _ turn.1 turn.2.3
show_still s t id (Err log_faults.Disk) turn = still_beside s t _ _ _ _ _ turn.1
show_still s t id (Err log_faults.Memory) turn = still_beside s t _ _ _ _ _ turn.1
show_still s t id (Err log_faults.Odd) turn = still_beside s t _ _ _ _ _ turn.1
show_still s t id (Err log_faults.Failed) turn = absurd turn

pub set_still : (s t : State) (id : ℕ) (state : LogState) → SetLogStateTransition s id state t → FrameUnchanged s t
set_still s t id state turn = still_log s t _ _ id turn.0 _ turn.1 turn.2

-- ---- a key that is sent elsewhere

pub rename_still : (s t : State) (key : EntryKey) (from_place to_place : Place) (is_moved : Bool) → RelocateTransition s key from_place to_place is_moved t → FrameUnchanged s t
rename_still s t key from_place to_place true turn = still_beside s t _ _ _ _ _ turn.1
rename_still s t key from_place to_place false turn = still_same s t turn.1
