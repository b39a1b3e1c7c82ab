-- Primitives of compaction, and of the removal of a log.
use Rattle.std.specs.Prelude.{◌≡◌, ℕ, ◌+◌, ◌<◌, Bool, true, false, IsTrue, List, Option, Some, None, Result, Ok, Err}
use Rattle.std.specs.Option.{option_map_or}
use Rattle.std.specs.FinMap as finite
use Rattle.std.specs.FinSet as set
use Rattle.bk_record.specs.Key.{EntryKey}
use Rattle.bk_record.specs.Location.{Place}
use Rattle.bk_record.specs.Record.{IsPayload, key_of}
use Rattle.bk_record.specs.Files.{file_of}
use Rattle.bk_log.specs.declared.fault.LogFault.{LogFault}
use Rattle.bk_log.specs.declared.fault.LogFault.TheVariants as log_faults
use Rattle.bk_lease.specs.declared.slot.Slot.TheVariants.{Free}
use Rattle.bk_lease.specs.Values.{with_state}
use Rattle.bk_accounts.specs.Choice.{IsChoice, NoneBelow}
use Rattle.bk_accounts.specs.Sums.{all_bytes, live_bytes}
use Rattle.bk_store.specs.Entries.{HasEntry}
use Rattle.bk_store.specs.Logs.{Log, HasOpenView, open_parts}
use Rattle.bk_store.specs.State.{State}
use Rattle.bk_store.specs.Primitives.{CanTake, IsIdle}
use Rattle.bk_store.specs.Invariant.{entry_measure, acknowledged_entries}
use Rattle.bk_store.specs.declared.log.LogState.TheVariants.{Copying}

-- ---- copying

-- an entry that the index points to may be appended to a target log
pub record CanAppendCopied (s : State) (id : ℕ) (key : EntryKey) (place : Place) (payload : List ℕ) : Type 0 where
  pub idle : IsIdle s id
  pub sent : finite.get s.index key ≡ Some place
  pub sized : IsPayload payload
  pub keyed : key_of payload ≡ Some key
  pub stands : IsTrue s.honest → HasEntry (file_of s.files) place key payload
  pub takes : CanTake s id Copying payload

-- ---- switching

-- a key may be pointed from one place to another, in a later log where an entry of the key is
-- published
pub record CanRelocate (s : State) (key : EntryKey) (from_place to_place : Place) : Type 0 where
  pub no_job : s.job ≡ None
  pub later : from_place.log < to_place.log
  pub seen : HasOpenView s.logs to_place.log
  pub stands : IsTrue s.honest → (payload : List ℕ) × HasEntry (open_parts s.logs) to_place key payload

-- The key points to the other place if it pointed to the first; otherwise nothing changes.
abbrev pub RelocateTransition : State → EntryKey → Place → Place → Bool → State → Type 0
RelocateTransition s key from_place to_place true t = (finite.get s.index key ≡ Some from_place) × (t ≡ record s { index = finite.insert s.index key to_place })
RelocateTransition s key from_place to_place false t = (¬ (finite.get s.index key ≡ Some from_place)) × (t ≡ s)

-- ---- removing

-- the state without a log, whose slot is free
abbrev pub without_log : State → ℕ → Log → State
without_log s id log = record s { logs = finite.remove s.logs id; keeper = with_state s.keeper log.slot Free }

-- A closed log is removed with its file and no other, and its slot is free. An error leaves the log
-- and its file.
abbrev pub RemoveLogTransition : State → ℕ → Result (Unit {0}) LogFault → State → Type 0
RemoveLogTransition s id (Ok _) t = (log : Log) × (finite.get s.logs id ≡ Some log)
    × (IsTrue s.honest → t.files ≡ finite.remove s.files id) × (t ≡ without_log (record s { files = t.files }) id log)
RemoveLogTransition s id (Err log_faults.Disk) t = (IsTrue s.honest → t.files ≡ s.files) × (t ≡ record s { files = t.files; failures = s.failures + 1 })
RemoveLogTransition s id (Err log_faults.Memory) t = (IsTrue s.honest → t.files ≡ s.files) × (t ≡ record s { files = t.files })
RemoveLogTransition s id (Err log_faults.Odd) t = (s.honest ≡ false) × (t ≡ record s { files = t.files })
RemoveLogTransition s id (Err log_faults.Failed) t = ⊥

-- ---- choosing

-- the bytes of the records of the acknowledged part of a log, and of those whose ledger is live,
-- length fields included; 0 if the log is not held
abbrev pub log_bytes : State → ℕ → ℕ
log_bytes s id = option_map_or (all_bytes entry_measure) (acknowledged_entries s.files s.logs id) 0

abbrev pub live_log_bytes : State → ℕ → ℕ
live_log_bytes s id = option_map_or (live_bytes entry_measure (set.contains s.ledgers.dead)) (acknowledged_entries s.files s.logs id) 0

-- the log with the smallest share of live bytes, among those of the list below the threshold
abbrev pub IsLeastUsed : State → ℕ → List ℕ → Option ℕ → Type 0
IsLeastUsed s threshold allowed None = NoneBelow (log_bytes s) (live_log_bytes s) threshold allowed
IsLeastUsed s threshold allowed (Some id) = IsChoice (log_bytes s) (live_log_bytes s) threshold allowed id
