-- The machine: one store and its readers. `MachineTransition` relates the state before a step, the
-- answer, and the state after it. `AbstractTransition` does the same for the abstract machine.
--
-- The transitions of the store alone are those of bk_store, bk_flush, bk_compact and bk_collect.
-- This file adds the transitions of a reader: take, fetch and release. Read `MachineTransition`
-- first.
use Rattle.std.specs.Prelude.{◌≡◌, ◌⊎◌, ℕ, ◌<◌, ◌≤◌, ◌^◌, true, false, List, length, slice_set, Option, Some, None, IsSome, Result, Ok, Err, IsTrue, Vec}
use Rattle.std.specs.List.{All}
use Rattle.std.specs.FinMap as finite
use Rattle.std.specs.declared.alloc.Global.{Global}
use Rattle.bk_record.specs.Key.{EntryKey}
use Rattle.bk_record.specs.Location.{Place}
use Rattle.bk_log.specs.Places.{HasEntryAt, FetchFails}
use Rattle.bk_log.specs.declared.fault.FetchFault.{FetchFault}
use Rattle.bk_log.specs.declared.fault.FetchFault.TheVariants as fetch_faults
use Rattle.bk_lease.specs.Values.{Ticket, with_given}
use Rattle.bk_store.specs.Logs.{View}
use Rattle.bk_store.specs.State.{State}
use Rattle.bk_store.specs.Contents.{cached_at}
use Rattle.bk_store.specs.Transitions.{is_dead, IsInLog, AddTransition, DeleteTransition, FenceTransition, SwapTransition}
use Rattle.bk_store.specs.Leasing.{IsLeaseOf, HasLeaseCount}
use Rattle.bk_store.specs.Abstract.{AbstractState, AbstractAdd, AbstractDelete, AbstractFence}
use Rattle.bk_store.specs.declared.adding.AddKind.TheVariants.{Ordinary, Recovery}
use Rattle.bk_store.specs.declared.answer.Added.{Added}
use Rattle.bk_store.specs.declared.answer.AddFault.{AddFault}
use Rattle.bk_store.specs.declared.answer.TakeFault.{TakeFault}
use Rattle.bk_store.specs.declared.answer.TakeFault.TheVariants as take_faults
use Rattle.bk_store.specs.declared.answer.DeleteFault.{DeleteFault}
use Rattle.bk_store.specs.declared.answer.Fence.{Fence}
use Rattle.bk_store.specs.declared.answer.FenceFault.{FenceFault}
use Rattle.bk_cache.specs.declared.swap.Swap.{Swap}
use Rattle.bk_flush.specs.Flushing.{WriteOneTransition, PublishTransition, RollTransition}
use Rattle.bk_flush.specs.declared.answer.WriteAnswer.{WriteAnswer}
use Rattle.bk_flush.specs.declared.answer.PublishAnswer.{PublishAnswer}
use Rattle.bk_flush.specs.declared.answer.RollAnswer.{RollAnswer}
use Rattle.bk_store.specs.declared.step_fault.StepFault.{StepFault}
use Rattle.bk_collect.specs.Collecting.{RetireTransition, RebuildTransition, CloseTransition, RemoveTransition}
use Rattle.bk_collect.specs.declared.answer.CloseAnswer.{CloseAnswer}
use Rattle.bk_collect.specs.declared.answer.CloseAnswer.TheVariants as closes
use Rattle.bk_collect.specs.declared.answer.RemoveAnswer.{RemoveAnswer}
use Rattle.bk_collect.specs.declared.answer.RemoveAnswer.TheVariants as removes
use Rattle.bk_collect.specs.declared.answer.RetireAnswer.{RetireAnswer}
use Rattle.bk_collect.specs.declared.answer.CollectFault.{CollectFault}
use Rattle.bk_compact.specs.Compacting.{BeginTransition, CopyTransition, EndCopyTransition, SwitchTransition, FinishTransition, GiveUpTransition}
use Rattle.bk_compact.specs.declared.answer.BeginAnswer.{BeginAnswer}
use Rattle.bk_compact.specs.declared.answer.CopyAnswer.{CopyAnswer}
use Rattle.bk_compact.specs.declared.answer.EndAnswer.{EndAnswer}
use Rattle.bk_compact.specs.declared.answer.SwitchAnswer.{SwitchAnswer}
use Rattle.bk_compact.specs.declared.answer.FinishAnswer.{FinishAnswer}
use Rattle.bk_compact.specs.declared.answer.GiveUpAnswer.{GiveUpAnswer}
use Rattle.bk_drive.specs.Abstract.{AbstractLease, AbstractMachine, IsIdleReader, HasAt, IsBusy, AbstractReaderTake, AbstractReaderFetch, AbstractReaderRelease, abstract_after_work}
use Rattle.bk_drive.specs.LedgerReads.{LedgerReadOf, AbstractLedgerRead}
use Rattle.bk_drive.specs.Counting.{counts_of, abstract_counts}
use Rattle.bk_drive.specs.declared.counts.Counts.{Counts}
use Rattle.bk_drive.specs.declared.ledger_reads.LedgerRead.{LedgerRead}
use Rattle.bk_drive.specs.declared.ledger_reads.LedgerReadAnswer.{LedgerReadAnswer}
use Rattle.bk_drive.specs.declared.step.TakeAnswer.{TakeAnswer}
use Rattle.bk_drive.specs.declared.step.TakeAnswer.TheVariants as takes
use Rattle.bk_drive.specs.declared.step.FetchAnswer.{FetchAnswer}
use Rattle.bk_drive.specs.declared.step.FetchAnswer.TheVariants as fetches
use Rattle.bk_drive.specs.declared.step.ReleaseAnswer.{ReleaseAnswer}
use Rattle.bk_drive.specs.declared.step.ReleaseAnswer.TheVariants as releases
use Rattle.bk_drive.specs.declared.step.Step.{Step}
use Rattle.bk_drive.specs.declared.step.Step.TheVariants as steps
use Rattle.bk_drive.specs.declared.step.Work.{Work}
use Rattle.bk_drive.specs.declared.step.Work.TheVariants as works
use Rattle.bk_drive.specs.declared.step.Answer.{Answer}
use Rattle.bk_drive.specs.declared.step.Answer.TheVariants as answers

-- What a reader holds: a lease (by its ticket), the place and key of an entry, and the view of the
-- entry's log.
pub record ReaderLease : Type 0 where
  pub ticket : Ticket
  pub place : Place
  pub key : EntryKey
  pub view : View

-- A store and its readers, numbered from 0, each with what it holds or none.
pub record MachineState : Type 0 where
  pub store : State
  pub readers : List (Option ReaderLease)

-- ---- steps of a reader

-- What a reader holds after a take.
abbrev pub reader_lease : Ticket → Place → EntryKey → View → ReaderLease
reader_lease ticket place key view = record { ticket = ticket; place = place; key = key; view = view }

-- The reader holds no lease, and the entry of the key is in a log, at this place.
pub record MayLease (d : MachineState) (reader : ℕ) (key : EntryKey) (place : Place) : Type 0 where
  pub free : IsIdleReader d.readers reader
  pub there : IsInLog d.store key place

-- State after a grant: the reader holds the lease, and the table counts one lease more.
abbrev pub with_lease : MachineState → ℕ → ReaderLease → MachineState
with_lease d reader hold = record {
  store = record d.store { keeper = with_given d.store.keeper };
  readers = slice_set d.readers reader (Some hold);
}

-- The reader holds no lease, and the ledger of the key is live.
pub record MayTake (d : MachineState) (reader : ℕ) (key : EntryKey) : Type 0 where
  pub free : IsIdleReader d.readers reader
  pub lives : is_dead d.store key.ledger ≡ false

-- Take of a key by a reader. If the reader exists and holds no lease, this is a take of the store:
-- the caches first, then the index. A granted lease is then held by the reader. Every other answer
-- leaves the machine unchanged.
abbrev pub ReaderTakeTransition : MachineState → ℕ → EntryKey → Result TakeAnswer TakeFault → MachineState → Type 0
ReaderTakeTransition d reader key (Ok takes.NoReader) e = (length d.readers ≤ reader) × (e ≡ d)
ReaderTakeTransition d reader key (Ok takes.ReaderBusy) e = IsBusy d.readers reader × (e ≡ d)
ReaderTakeTransition d reader key (Ok takes.Deleted) e = IsIdleReader d.readers reader × (is_dead d.store key.ledger ≡ true) × (e ≡ d)
ReaderTakeTransition d reader key (Ok (takes.Cached payload)) e = MayTake d reader key × (cached_at d.store key ≡ Some payload.value.items) × (e ≡ d)
ReaderTakeTransition d reader key (Ok takes.NotHeld) e = MayTake d reader key × (cached_at d.store key ≡ None)
    × (finite.get d.store.index key ≡ None) × (e ≡ d)
ReaderTakeTransition d reader key (Ok (takes.Leased place)) e = MayLease d reader key place × ((ticket : Ticket) × ((view : View)
    × IsLeaseOf d.store.keeper d.store.logs place.log ticket view × (e ≡ with_lease d reader (reader_lease ticket place key view))))
ReaderTakeTransition d reader key (Err take_faults.NoSeat) e = (place : Place) × MayLease d reader key place × (e ≡ d)
ReaderTakeTransition d reader key (Err take_faults.TooMany) e = (place : Place) × MayLease d reader key place
    × HasLeaseCount d.store.keeper d.store.logs place.log d.store.keeper.most × (e ≡ d)
ReaderTakeTransition d reader key (Err take_faults.Memory) e = MayTake d reader key
    × (IsSome (cached_at d.store key) ⊎ IsSome (finite.get d.store.index key)) × (e ≡ d)

-- An honest view shows bytes: every item is below 256.
abbrev pub ShowsBytes : View → Type 0
ShowsBytes view = IsTrue view.is_honest → All (λ b. b < 2 ^ 8) view.bytes

-- Fetch by a reader, from the view of its lease. On an honest view `Bytes` is the payload of its
-- key at its place, and a fault has its reason in the view's bytes. `Disk` occurs only if the view
-- is not sound. The state is unchanged.
abbrev pub ReaderFetchAnswer : List (Option ReaderLease) → ℕ → Result FetchAnswer FetchFault → Type 0
ReaderFetchAnswer readers reader (Ok fetches.NoReader) = length readers ≤ reader
ReaderFetchAnswer readers reader (Ok fetches.NoLease) = IsIdleReader readers reader
ReaderFetchAnswer readers reader (Ok (fetches.Bytes payload)) = (hold : ReaderLease) × HasAt readers reader hold × ShowsBytes hold.view
    × (IsTrue hold.view.is_honest → HasEntryAt hold.view.bytes hold.place.at hold.key payload.items)
ReaderFetchAnswer readers reader (Err fault) = (hold : ReaderLease) × HasAt readers reader hold × ShowsBytes hold.view
    × (IsTrue hold.view.is_honest → FetchFails hold.view.bytes hold.place.at hold.key fault)
    × (fault ≡ fetch_faults.Disk → hold.view.is_sound ≡ false)

-- Release by a reader. It holds no lease afterwards.
abbrev pub ReaderReleaseTransition : List (Option ReaderLease) → ℕ → ReleaseAnswer → List (Option ReaderLease) → Type 0
ReaderReleaseTransition readers reader releases.NoReader readers' = (length readers ≤ reader) × (readers' ≡ readers)
ReaderReleaseTransition readers reader releases.NoLease readers' = IsIdleReader readers reader × (readers' ≡ readers)
ReaderReleaseTransition readers reader releases.Released readers' = IsBusy readers reader × (readers' ≡ slice_set readers reader None)

-- ---- the machine

-- A step of the store alone is the transition of the call that it makes.
abbrev pub WorkTransition : State → Work → Answer → State → Type 0
WorkTransition s works.Swap a t = (r : Swap) × (a ≡ answers.Swap r) × SwapTransition s r t
WorkTransition s works.WriteOne a t = (r : Result WriteAnswer StepFault) × (a ≡ answers.Write r) × WriteOneTransition s r t
WorkTransition s works.Publish a t = (r : Result PublishAnswer StepFault) × (a ≡ answers.Publish r) × PublishTransition s r t
WorkTransition s works.Roll a t = (r : Result RollAnswer StepFault) × (a ≡ answers.Roll r) × RollTransition s r t
WorkTransition s (works.Retire log) a t = (r : RetireAnswer) × (a ≡ answers.Retire r) × RetireTransition s log r t
WorkTransition s works.Rebuild a t = (r : Result ℕ CollectFault) × (a ≡ answers.Rebuild r) × RebuildTransition s r t
WorkTransition s (works.Close log) a t = (r : CloseAnswer) × (a ≡ answers.Close r) × CloseTransition s log r t
WorkTransition s (works.Remove log) a t = (r : Result RemoveAnswer CollectFault) × (a ≡ answers.Remove r) × RemoveTransition s log r t
WorkTransition s (works.Begin kind) a t = (r : Result BeginAnswer StepFault) × (a ≡ answers.Begin r) × BeginTransition s kind r t
WorkTransition s (works.Copy n) a t = (r : Result CopyAnswer StepFault) × (a ≡ answers.Copy r) × CopyTransition s n r t
WorkTransition s works.EndCopy a t = (r : Result EndAnswer StepFault) × (a ≡ answers.EndCopy r) × EndCopyTransition s r t
WorkTransition s (works.Switch n) a t = (r : SwitchAnswer) × (a ≡ answers.Switch r) × SwitchTransition s n r t
WorkTransition s works.Finish a t = (r : FinishAnswer) × (a ≡ answers.Finish r) × FinishTransition s r t
WorkTransition s works.GiveUp a t = (r : GiveUpAnswer) × (a ≡ answers.GiveUp r) × GiveUpTransition s r t

-- The step asks to close the log, and the answer is Closed.
abbrev pub Closes : Step → Answer → ℕ → Type 0
Closes step answer log = (step ≡ steps.Work (works.Close log)) × (answer ≡ answers.Close closes.Closed)

-- The step asks to remove the log, and the answer is Removed.
abbrev pub RemovesLog : Step → Answer → ℕ → Type 0
RemovesLog step answer log = (step ≡ steps.Work (works.Remove log)) × (answer ≡ answers.Remove (Ok removes.Removed))

-- The step closes or removes the log. No lease on it is granted afterwards.
abbrev pub ClosesOrRemoves : Step → Answer → ℕ → Type 0
ClosesOrRemoves step answer log = Closes step answer log ⊎ RemovesLog step answer log

-- No reader holds a lease on the log.
abbrev pub HasNoReader : List (Option ReaderLease) → ℕ → Type 0
HasNoReader readers log = (reader : ℕ) (hold : ReaderLease) → HasAt readers reader hold → ¬ (hold.ticket.log ≡ log)

-- One step of the machine: the state before, the step, its answer, the state after. A log is closed
-- or removed only if no reader holds a lease on it (`worked`).
pub data MachineTransition : MachineState → Step → Answer → MachineState → Type 0 where
  worked : {d : MachineState} {t : State} {work : Work} {a : Answer} → WorkTransition d.store work a t
      → ((log : ℕ) → ClosesOrRemoves (steps.Work work) a log → HasNoReader d.readers log) → MachineTransition d (steps.Work work) a (record d { store = t })
  added : {d : MachineState} {t : State} {payload : Vec ℕ Global} {r : Result Added AddFault} → AddTransition d.store Ordinary payload.items r t
      → MachineTransition d (steps.Add payload) (answers.Add r) (record d { store = t })
  recovered : {d : MachineState} {t : State} {payload : Vec ℕ Global} {r : Result Added AddFault} → AddTransition d.store Recovery payload.items r t
      → MachineTransition d (steps.AddRecovery payload) (answers.Add r) (record d { store = t })
  deleted : {d : MachineState} {t : State} {ledger : ℕ} {r : Result ℕ DeleteFault} → DeleteTransition d.store ledger r t
      → MachineTransition d (steps.Delete ledger) (answers.Delete r) (record d { store = t })
  fenced : {d : MachineState} {t : State} {ledger : ℕ} {r : Result Fence FenceFault} → FenceTransition d.store ledger r t
      → MachineTransition d (steps.Fence ledger) (answers.Fence r) (record d { store = t })
  taken : {d e : MachineState} {reader : ℕ} {key : EntryKey} {r : Result TakeAnswer TakeFault} → ReaderTakeTransition d reader key r e
      → MachineTransition d (steps.Take reader key) (answers.Take r) e
  fetched : {d : MachineState} {reader : ℕ} {r : Result FetchAnswer FetchFault} → ReaderFetchAnswer d.readers reader r
      → MachineTransition d (steps.Fetch reader) (answers.Fetch r) d
  released : {d : MachineState} {readers : List (Option ReaderLease)} {reader : ℕ} {r : ReleaseAnswer} → ReaderReleaseTransition d.readers reader r readers
      → MachineTransition d (steps.Release reader) (answers.Release r) (record d { readers = readers })
  asked : {d : MachineState} {read : LedgerRead} {r : LedgerReadAnswer} → LedgerReadOf d.store read r → MachineTransition d (steps.Read read) (answers.Read r) d
  counted : {d : MachineState} {counts : Counts} → counts ≡ counts_of d.store → MachineTransition d steps.Stats (answers.Stats counts) d

-- ---- the abstract machine

-- One step of the abstract machine. `limit` bounds the bytes of the active entries. A step of the
-- store alone (`worked`) leaves the map unchanged; it changes at most which entries are cached
-- only. `MachineTransition` defines which answers it may have.
pub data AbstractTransition : ℕ → AbstractMachine → Step → Answer → AbstractMachine → Type 0 where
  worked : {limit : ℕ} {p : AbstractMachine} {work : Work} {a : Answer}
      → AbstractTransition limit p (steps.Work work) a (record p { store = abstract_after_work a p.store })
  added : {limit : ℕ} {p : AbstractMachine} {q : AbstractState} {payload : Vec ℕ Global} {r : Result Added AddFault}
      → AbstractAdd limit Ordinary p.store payload.items r q → AbstractTransition limit p (steps.Add payload) (answers.Add r) (record p { store = q })
  recovered : {limit : ℕ} {p : AbstractMachine} {q : AbstractState} {payload : Vec ℕ Global} {r : Result Added AddFault}
      → AbstractAdd limit Recovery p.store payload.items r q → AbstractTransition limit p (steps.AddRecovery payload) (answers.Add r) (record p { store = q })
  deleted : {limit : ℕ} {p : AbstractMachine} {q : AbstractState} {ledger : ℕ} {r : Result ℕ DeleteFault} → AbstractDelete p.store ledger r q
      → AbstractTransition limit p (steps.Delete ledger) (answers.Delete r) (record p { store = q })
  fenced : {limit : ℕ} {p : AbstractMachine} {q : AbstractState} {ledger : ℕ} {r : Result Fence FenceFault} → AbstractFence p.store ledger r q
      → AbstractTransition limit p (steps.Fence ledger) (answers.Fence r) (record p { store = q })
  taken : {limit : ℕ} {p q : AbstractMachine} {reader : ℕ} {key : EntryKey} {r : Result TakeAnswer TakeFault} → AbstractReaderTake p reader key r q
      → AbstractTransition limit p (steps.Take reader key) (answers.Take r) q
  fetched : {limit : ℕ} {p : AbstractMachine} {reader : ℕ} {r : Result FetchAnswer FetchFault} → AbstractReaderFetch p.readers reader r
      → AbstractTransition limit p (steps.Fetch reader) (answers.Fetch r) p
  released : {limit : ℕ} {p : AbstractMachine} {readers : List (Option AbstractLease)} {reader : ℕ} {r : ReleaseAnswer} → AbstractReaderRelease p.readers reader r readers
      → AbstractTransition limit p (steps.Release reader) (answers.Release r) (record p { readers = readers })
  asked : {limit : ℕ} {p : AbstractMachine} {read : LedgerRead} {r : LedgerReadAnswer} → AbstractLedgerRead p.store read r
      → AbstractTransition limit p (steps.Read read) (answers.Read r) p
  counted : {limit : ℕ} {p : AbstractMachine} {counts : Counts} → counts ≡ abstract_counts p.store
      → AbstractTransition limit p steps.Stats (answers.Stats counts) p
