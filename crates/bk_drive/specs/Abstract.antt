-- The abstract machine: an abstract map from keys to payloads, and for each reader the log and the
-- payload of its lease. It has no files, no logs, no index and no flush. Read `AbstractMachine`
-- first, then the three transitions of a reader. The transitions of the map (`AbstractAdd`,
-- `AbstractDelete`, `AbstractFence`) are in `specs/Abstract.antt` of bk_store. `AbstractTransition`
-- (specs/Machine.antt) puts them together.
use Rattle.std.specs.Prelude.{◌≡◌, ℕ, ◌≤◌, List, length, slice_get, slice_set, Option, Some, None, IsSome, Result, Ok, Err}
use Rattle.std.specs.FinMap as finite
use Rattle.bk_record.specs.Key.{EntryKey}
use Rattle.bk_log.specs.declared.fault.FetchFault.{FetchFault}
use Rattle.bk_log.specs.declared.fault.FetchFault.TheVariants as fetch_faults
use Rattle.bk_store.specs.Abstract.{AbstractState, IsDeleted, IsAlive, abstract_after_swap}
use Rattle.bk_store.specs.Fronts.{fronts_after_flush}
use Rattle.bk_store.specs.declared.answer.TakeFault.{TakeFault}
use Rattle.bk_store.specs.declared.answer.TakeFault.TheVariants as take_faults
use Rattle.bk_flush.specs.declared.answer.PublishAnswer.{PublishAnswer}
use Rattle.bk_flush.specs.declared.answer.PublishAnswer.TheVariants.{Published}
use Rattle.bk_store.specs.declared.step_fault.StepFault.{StepFault}
use Rattle.bk_drive.specs.declared.step.TakeAnswer.{TakeAnswer}
use Rattle.bk_drive.specs.declared.step.TakeAnswer.TheVariants as takes
use Rattle.bk_drive.specs.declared.step.FetchAnswer.{FetchAnswer}
use Rattle.bk_drive.specs.declared.step.FetchAnswer.TheVariants as fetches
use Rattle.bk_drive.specs.declared.step.ReleaseAnswer.{ReleaseAnswer}
use Rattle.bk_drive.specs.declared.step.ReleaseAnswer.TheVariants as releases
use Rattle.bk_drive.specs.declared.step.Answer.{Answer}
use Rattle.bk_drive.specs.declared.step.Answer.TheVariants as answers

-- Abstract lease: the log that must not be removed, and the payload of the entry when the lease was
-- granted.
pub record AbstractLease : Type 0 where
  pub log : ℕ
  pub payload : List ℕ

-- The abstract map, and the readers, numbered from 0, each with its abstract lease or none.
pub record AbstractMachine : Type 0 where
  pub store : AbstractState
  pub readers : List (Option AbstractLease)

-- The reader exists and holds no lease.
abbrev pub IsIdleReader : {X : Type 0} → List (Option X) → ℕ → Type 0
IsIdleReader readers reader = slice_get readers reader ≡ Some None

-- The reader exists and holds this.
abbrev pub HasAt : {X : Type 0} → List (Option X) → ℕ → X → Type 0
HasAt readers reader held = slice_get readers reader ≡ Some (Some held)

-- The reader exists and holds a lease.
abbrev pub IsBusy : {X : Type 0} → List (Option X) → ℕ → Type 0
IsBusy {X} readers reader = (held : X) × HasAt readers reader held

-- Take of a key by a reader. `NoReader` if the reader does not exist, `ReaderBusy` if it holds a
-- lease, `Deleted` if the ledger is deleted, `NotHeld` if the map has no such key. Otherwise the
-- payload of the map is returned (`Cached`), or becomes the reader's abstract lease (`Leased`), or
-- the take fails. Only `Leased` changes the machine.
abbrev pub AbstractReaderTake : AbstractMachine → ℕ → EntryKey → Result TakeAnswer TakeFault → AbstractMachine → Type 0
AbstractReaderTake p reader key (Ok takes.NoReader) q = (length p.readers ≤ reader) × (q ≡ p)
AbstractReaderTake p reader key (Ok takes.ReaderBusy) q = IsBusy p.readers reader × (q ≡ p)
AbstractReaderTake p reader key (Ok takes.Deleted) q = IsIdleReader p.readers reader × IsDeleted p.store key.ledger × (q ≡ p)
AbstractReaderTake p reader key (Ok takes.NotHeld) q = IsIdleReader p.readers reader × IsAlive p.store key.ledger × (finite.get p.store.map key ≡ None) × (q ≡ p)
AbstractReaderTake p reader key (Ok (takes.Cached payload)) q = IsIdleReader p.readers reader × IsAlive p.store key.ledger
    × (finite.get p.store.map key ≡ Some payload.value.items) × (q ≡ p)
AbstractReaderTake p reader key (Ok (takes.Leased place)) q = IsIdleReader p.readers reader × IsAlive p.store key.ledger
    × ((payload : List ℕ) × (finite.get p.store.map key ≡ Some payload)
    × (q ≡ record p { readers = slice_set p.readers reader (Some (record { log = place.log; payload = payload })) }))
AbstractReaderTake p reader key (Err take_faults.NoSeat) q = IsIdleReader p.readers reader × IsAlive p.store key.ledger × IsSome (finite.get p.store.map key) × (q ≡ p)
AbstractReaderTake p reader key (Err take_faults.TooMany) q = IsIdleReader p.readers reader × IsAlive p.store key.ledger × IsSome (finite.get p.store.map key) × (q ≡ p)
AbstractReaderTake p reader key (Err take_faults.Memory) q = IsIdleReader p.readers reader × IsAlive p.store key.ledger × IsSome (finite.get p.store.map key) × (q ≡ p)

-- Fetch by a reader. Returns the payload of its abstract lease, whatever happened to the ledger
-- since the take. Only `Disk` and `Memory` can occur in its place.
abbrev pub AbstractReaderFetch : List (Option AbstractLease) → ℕ → Result FetchAnswer FetchFault → Type 0
AbstractReaderFetch readers reader (Ok fetches.NoReader) = length readers ≤ reader
AbstractReaderFetch readers reader (Ok fetches.NoLease) = IsIdleReader readers reader
AbstractReaderFetch readers reader (Ok (fetches.Bytes payload)) = (owed : AbstractLease) × HasAt readers reader owed × (payload.items ≡ owed.payload)
AbstractReaderFetch readers reader (Err fetch_faults.Disk) = IsBusy readers reader
AbstractReaderFetch readers reader (Err fetch_faults.Memory) = IsBusy readers reader
AbstractReaderFetch readers reader (Err fetch_faults.NotThere) = ⊥
AbstractReaderFetch readers reader (Err fetch_faults.Odd) = ⊥

-- Release by a reader. Its abstract lease ends.
abbrev pub AbstractReaderRelease : List (Option AbstractLease) → ℕ → ReleaseAnswer → List (Option AbstractLease) → Type 0
AbstractReaderRelease readers reader releases.NoReader readers' = (length readers ≤ reader) × (readers' ≡ readers)
AbstractReaderRelease readers reader releases.NoLease readers' = IsIdleReader readers reader × (readers' ≡ readers)
AbstractReaderRelease readers reader releases.Released readers' = IsBusy readers reader × (readers' ≡ slice_set readers reader None)

-- A publish that succeeds ends the flush: its entries are no longer only cached, and durable.
abbrev pub abstract_after_publish : Result PublishAnswer StepFault → AbstractState → AbstractState
abstract_after_publish (Ok (Published n)) p = record p { flush = None; fronts = fronts_after_flush p.fronts }
abstract_after_publish _ p = p

-- The abstract map after a step of the store alone. A swap and a publish change which entries are
-- only cached, and the fronts. No step changes the map itself.
abbrev pub abstract_after_work : Answer → AbstractState → AbstractState
abstract_after_work (answers.Swap r) p = abstract_after_swap r p
abstract_after_work (answers.Publish r) p = abstract_after_publish r p
abstract_after_work _ p = p
