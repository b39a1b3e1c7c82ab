-- Effect of the primitives on the parts of a store that its visible state omits: the accounts, the
-- Writing log, the list of logs that are Writing or Filled, and what is durable.
use Rattle.std.specs.Prelude.{◌≡◌, ◌⊎◌, ℕ, ◌+◌, ◌==◌, Bool, true, false, if◌then◌else◌, IsTrue, List, [], length, Option, Some, None, Result, Ok, Err, IsOk}
use Rattle.std.specs.FinMap as finite
use Rattle.bk_record.specs.Key.{EntryKey}
use Rattle.bk_record.specs.Location.{Place}
use Rattle.bk_record.specs.Files.{In}
use Rattle.bk_disk.specs.Durable.{DurableGrows, IsDroppedFromDurable}
use Rattle.bk_log.specs.declared.fault.LogFault.{LogFault}
use Rattle.bk_log.specs.declared.fault.LogFault.TheVariants as log_faults
use Rattle.bk_cache.specs.Invariant.{IsSound}
use Rattle.bk_lease.specs.Slots.{IsFree}
use Rattle.bk_accounts.specs.Book.{Book, after_open, after_ready, after_count, after_name, after_unname, after_drop}
use Rattle.bk_store.specs.Logs.{Logs, log_without_records}
use Rattle.bk_store.specs.State.{State, StoreParts}
use Rattle.bk_store.specs.Primitives.{CanTake, IsFirstUnplaced, AllPlaced, WritesInto, NextNeedsLog, AppendFlushedTransition, IndexPlacedTransition}
use Rattle.bk_store.specs.Deletion.{AreNamedBy}
use Rattle.bk_store.specs.declared.log.LogState.{LogState}
use Rattle.bk_store.specs.declared.log.LogState.TheVariants.{Writing, Filled, Copying, Readable, Retired, Closed}
use Rattle.bk_store.specs.declared.answer.Appended.{Appended}
use Rattle.bk_store.specs.declared.answer.Appended.TheVariants as appends
use Rattle.bk_store.specs.declared.answer.MakeFault.{MakeFault}
use Rattle.bk_store.specs.declared.answer.MakeFault.TheVariants as makes

-- ---- durable files

-- the parts, with the durable files of another one
abbrev pub with_durable_of : StoreParts → StoreParts → StoreParts
with_durable_of p q = record p { synced = q.synced; gone = q.gone }

-- an honest disk keeps of each log at least as much as before, and no more removed files may be
-- back
abbrev pub DurableNeverShrinks : StoreParts → StoreParts → Type 0
DurableNeverShrinks p q = IsTrue p.state.honest → DurableGrows p.synced p.gone q.synced q.gone

-- a log that is removed is no longer durable, also if the removal failed
abbrev pub RemovalDurability : StoreParts → ℕ → Result (Unit {0}) LogFault → StoreParts → Type 0
RemovalDurability p id (Ok _) q = IsTrue p.state.honest → IsDroppedFromDurable p.state.files id p.synced p.gone q.synced q.gone
RemovalDurability p id (Err log_faults.Disk) q = IsTrue p.state.honest → IsDroppedFromDurable p.state.files id p.synced p.gone q.synced q.gone
RemovalDurability p id (Err log_faults.Memory) q = DurableNeverShrinks p q
RemovalDurability p id (Err log_faults.Failed) q = DurableNeverShrinks p q
RemovalDurability p id (Err log_faults.Odd) q = DurableNeverShrinks p q

-- ---- creating a log

-- the fault of the creation of a log for a fault of the log
abbrev pub make_fault_of : LogFault → MakeFault
make_fault_of log_faults.Memory = makes.Memory
make_fault_of log_faults.Disk = makes.Disk
make_fault_of log_faults.Failed = makes.Odd
make_fault_of log_faults.Odd = makes.Odd

-- each member of the first list is in the second
abbrev pub AllStay : List ℕ → List ℕ → Type 0
AllStay old new = (id : ℕ) → In id old → In id new

-- The list of the logs that are Writing or Filled, before and after a log is created in this state.
-- It grows only for a log that becomes Writing.
pub record ListGoesOn (state : LogState) (old new : List ℕ) : Type 0 where
  pub still : AllStay old new
  pub alone : ¬ (state ≡ Writing) → new ≡ old

-- the next log has a slot, which is still free, and an account, and is in the list if it becomes
-- Writing
pub record HasSlot (p : StoreParts) (state : LogState) (slot : ℕ) (q : StoreParts) : Type 0 where
  pub free : IsFree p.state.keeper.slots slot
  pub parts : q ≡ record p {
    state = record p.state { logs = finite.insert p.state.logs p.state.next (log_without_records slot) };
    accounts = after_open p.accounts p.state.next;
    filled = q.filled;
  }
  pub list : ListGoesOn state p.filled q.filled
  pub listed : state ≡ Writing → In p.state.next q.filled

-- no slot was taken
pub record HasNoSlot (p : StoreParts) (state : LogState) (q : StoreParts) : Type 0 where
  pub parts : q ≡ record p { filled = q.filled }
  pub list : ListGoesOn state p.filled q.filled

-- the accounts with that of the new log, if it is held
abbrev pub opened_for : Logs → Book → ℕ → Book
opened_for logs book id = if finite.contains_key logs id then after_open book id else book

-- the Writing log, after a log of this id was created in this state
abbrev pub writing_in : Option ℕ → ℕ → LogState → Option ℕ
writing_in old id Writing = Some id
writing_in old id Filled = old
writing_in old id Copying = old
writing_in old id Readable = old
writing_in old id Retired = old
writing_in old id Closed = old

abbrev pub made_writing : Option ℕ → LogState → Result ℕ MakeFault → Option ℕ
made_writing old state (Ok id) = writing_in old id state
made_writing old state (Err fault) = old

pub record CreateLogInternals (p : StoreParts) (state : LogState) (result : Result ℕ MakeFault) (q : StoreParts) : Type 0 where
  pub parts : q ≡ record p {
    state = q.state;
    accounts = opened_for q.state.logs p.accounts p.state.next;
    writing = made_writing p.writing state result;
    filled = q.filled;
  }
  pub list : ListGoesOn state p.filled q.filled
  pub listed : state ≡ Writing → IsOk result → In p.state.next q.filled

-- ---- appending to a log, and sealing it

-- room was made for a record of the ledger, or not
abbrev pub IsReadied : Book → ℕ → ℕ → Book → Type 0
IsReadied old log ledger new = (new ≡ old) ⊎ (new ≡ after_ready old log ledger)

-- the Writing log, unless an append to it failed
abbrev pub unless_failed : Option ℕ → LogFault → Option ℕ
unless_failed old log_faults.Memory = old
unless_failed old log_faults.Disk = None
unless_failed old log_faults.Failed = None
unless_failed old log_faults.Odd = None

-- an appended record is counted; if the device failed, no log is Writing
abbrev pub AppendFlushedInternals : StoreParts → ℕ → EntryKey → List ℕ → Result Place LogFault → StoreParts → Type 0
AppendFlushedInternals p log key payload (Ok place) q = IsSound p.state.caches × (q ≡ record p {
  state = q.state;
  accounts = after_count (after_ready p.accounts log key.ledger) log key.ledger (4 + length payload);
})
AppendFlushedInternals p log key payload (Err log_faults.Memory) q = IsReadied p.accounts log key.ledger q.accounts
    × (q ≡ record p { state = q.state; accounts = q.accounts })
AppendFlushedInternals p log key payload (Err log_faults.Disk) q = IsSound p.state.caches × (q ≡ record p {
  state = q.state;
  accounts = after_ready p.accounts log key.ledger;
  writing = None;
})
AppendFlushedInternals p log key payload (Err log_faults.Odd) q = IsSound p.state.caches × (q ≡ record p {
  state = q.state;
  accounts = after_ready p.accounts log key.ledger;
  writing = None;
})
AppendFlushedInternals p log key payload (Err log_faults.Failed) q = ⊥

-- the Writing log is not filled for this payload, and can take its record
pub record TakesWithin (s : State) (id : ℕ) (payload : List ℕ) : Type 0 where
  pub into : WritesInto s id payload false
  pub takes : CanTake s id Writing payload

-- the parts after the next entry of the flush was appended, or this append failed
pub record AppendsNextEntry (p : StoreParts) (result : Result Place LogFault) (q : StoreParts) : Type 0 where
  pub key : EntryKey
  pub payload : List ℕ
  pub next : IsFirstUnplaced p.state key payload
  pub log : ℕ
  pub within : TakesWithin p.state log payload
  pub put : AppendFlushedTransition p.state log key payload result q.state
  pub beside : AppendFlushedInternals p log key payload result q

-- the parts after a call of this result that appends the next entry
abbrev pub AppendNextParts : StoreParts → Result Appended LogFault → StoreParts → Type 0
AppendNextParts p (Ok appends.AllPlaced) q = AllPlaced p.state × (q ≡ p)
AppendNextParts p (Ok appends.NeedsLog) q = NextNeedsLog p.state × (q ≡ p)
AppendNextParts p (Ok (appends.At place)) q = AppendsNextEntry p (Ok place) q
AppendNextParts p (Err fault) q = AppendsNextEntry p (Err fault) q

-- a record that was appended to a target log is counted; an error may leave room for one
abbrev pub AppendCopiedInternals : StoreParts → ℕ → EntryKey → List ℕ → Result Place LogFault → StoreParts → Type 0
AppendCopiedInternals p log key payload (Ok place) q = q ≡ record p {
  state = q.state;
  accounts = after_count (after_ready p.accounts log key.ledger) log key.ledger (4 + length payload);
}
AppendCopiedInternals p log key payload (Err fault) q = IsReadied p.accounts log key.ledger q.accounts × (q ≡ record p { state = q.state; accounts = q.accounts })

-- the Writing log, unless it is this one
abbrev pub unless_log : Option ℕ → ℕ → Option ℕ
unless_log None log = None
unless_log (Some id) log = if id == log then None else Some id

abbrev pub SealLogInternals : StoreParts → ℕ → StoreParts → Type 0
SealLogInternals p log q = q ≡ record p { state = q.state; writing = unless_log p.writing log }

-- ---- indexing a key, and the end of a flush

-- the accounts after a key moved from one log, or none, to another
abbrev pub parts_after_relocate : Book → Option Place → Place → Book
parts_after_relocate book None place = after_name book place.log
parts_after_relocate book (Some was) place = after_name (after_unname book was.log) place.log

-- the parts after a key points to a place
abbrev pub parts_after_index : StoreParts → EntryKey → Place → StoreParts
parts_after_index p key place = record p {
  state = record p.state { index = finite.insert p.state.index key place };
  accounts = parts_after_relocate p.accounts (finite.get p.state.index key) place;
}

abbrev pub IndexEntryInternals : {E : Type 0} → StoreParts → EntryKey → Place → Result (Unit {0}) E → StoreParts → Type 0
IndexEntryInternals p key place (Ok _) q = IsSound p.state.caches
    × (q ≡ record p { state = q.state; accounts = parts_after_relocate p.accounts (finite.get p.state.index key) place })
IndexEntryInternals p key place (Err _) q = q ≡ p

-- the parts after the key of the entry of the flush with this number was pointed to its place
pub record IndexPlacedParts {E : Type 0} (p : StoreParts) (number : ℕ) (result : Result (Unit {0}) E) (q : StoreParts) : Type 0 where
  pub turn : IndexPlacedTransition p.state number result q.state
  pub beside : IndexEntryInternals p turn.key turn.place result q

-- a relocated key is counted in the account of its new log
abbrev pub RelocateInternals : StoreParts → EntryKey → Place → Bool → StoreParts → Type 0
RelocateInternals p key place true q = q ≡ parts_after_index p key place
RelocateInternals p key place false q = q ≡ p

abbrev pub RestartFlushInternals : StoreParts → StoreParts → Type 0
RestartFlushInternals p q = q ≡ record p { state = q.state; writing = None; filled = [] }

-- of the list only the Writing log is left
pub record EndFlushInternals (p q : StoreParts) : Type 0 where
  pub parts : q ≡ record p { state = q.state; filled = q.filled }
  pub still : (id : ℕ) → In id p.filled → p.writing ≡ Some id → In id q.filled
  pub alone : (id : ℕ) → In id q.filled → p.writing ≡ Some id

-- ---- replacing the index

-- the entries of the index are counted again
abbrev pub ReplaceIndexInternals : StoreParts → StoreParts → Type 0
ReplaceIndexInternals p q = AreNamedBy q.state.index p.accounts q.accounts × (q ≡ record p { state = q.state; accounts = q.accounts })

-- ---- removing a log

-- the account of a removed log is dropped
abbrev pub RemoveLogInternals : StoreParts → ℕ → Result (Unit {0}) LogFault → StoreParts → Type 0
RemoveLogInternals p id (Ok _) q = q ≡ record p { state = q.state; accounts = after_drop p.accounts id }
RemoveLogInternals p id (Err _) q = q ≡ record p { state = q.state }
