-- The main theorem, `Headline`: the machine refines the abstract machine. For every list of steps,
-- a store with four readers gives the answers of a map from keys to payloads. At every moment its
-- files and caches represent that map.
--
-- `drive` (src/run.rt) ensures `Headline` on an honest disk, for any files, any deleted ledgers and
-- any steps. The proof is a forward simulation: each step of the machine has a step of the abstract
-- machine with the same answer.
--
-- Read from the end: `Headline`, then `Run`, then `MachineRefines`. The two machines are in
-- specs/Machine.antt and specs/Abstract.antt.
use Rattle.std.specs.Prelude.{◌≡◌, ℕ, true, List, [], ◌∷◌, replicate, Option, Some, None, IsTrue}
use Rattle.std.specs.FinMap as finite
use Rattle.bk_record.specs.Files.{Files}
use Rattle.bk_record.specs.Scan.{Ledgers, scan_of, live}
use Rattle.bk_store.specs.Entries.{HasEntry}
use Rattle.bk_store.specs.State.{State}
use Rattle.bk_store.specs.Ledgers.{opened_ledgers}
use Rattle.bk_store.specs.Fronts.{fronts_at}
use Rattle.bk_store.specs.Transitions.{valid_ledgers}
use Rattle.bk_store.specs.Opening.{IsOpened}
use Rattle.bk_store.specs.Abstract as plain
use Rattle.bk_store.specs.declared.settings.Settings.{Settings}
use Rattle.bk_drive.specs.Abstract.{AbstractLease, AbstractMachine}
use Rattle.bk_drive.specs.Machine.{ReaderLease, MachineState, MachineTransition, AbstractTransition, HasNoReader}
use Rattle.bk_drive.specs.ReaderLeases.{AreOpenLeases, WasClosedOrRemoved}
use Rattle.bk_drive.specs.declared.step.Step.{Step}
use Rattle.bk_drive.specs.declared.step.Answer.{Answer}

-- The lease refines the abstract lease. It is on the same log, and its place lies in that log. Its
-- view is honest, and shows the entry of its key at its place, with the payload of the abstract
-- lease.
pub record LeaseRefines (hold : ReaderLease) (owed : AbstractLease) : Type 0 where
  pub log : hold.ticket.log ≡ owed.log
  pub place : hold.place.log ≡ owed.log
  pub honest : IsTrue hold.view.is_honest
  pub shown : HasEntry (λ _. hold.view.bytes) hold.place hold.key owed.payload

-- The readers' leases refine the abstract leases, reader by reader. A reader holds a lease exactly
-- if it has an abstract lease.
abbrev pub LeasesRefine : List (Option ReaderLease) → List (Option AbstractLease) → Type 0
LeasesRefine [] [] = Unit {0}
LeasesRefine (None ∷ holds) (None ∷ owed) = LeasesRefine holds owed
LeasesRefine (Some h ∷ holds) (Some o ∷ owed) = LeaseRefines h o × LeasesRefine holds owed
LeasesRefine (None ∷ holds) (Some o ∷ owed) = ⊥
LeasesRefine (Some h ∷ holds) (None ∷ owed) = ⊥
LeasesRefine [] (o ∷ owed) = ⊥
LeasesRefine (h ∷ holds) [] = ⊥

-- The machine refines the abstract machine. The files with the caches represent the abstract map
-- (`store`). Every lease refines its abstract lease (`readers`). Every lease was granted by the
-- store's own table, and its log is open there (`leases`).
pub record MachineRefines (d : MachineState) (p : AbstractMachine) : Type 0 where
  pub store : plain.StoreRefines d.store p.store
  pub readers : LeasesRefine d.readers p.readers
  pub leases : AreOpenLeases d.store.keeper d.readers

-- An execution of both machines in lockstep. Each step takes one transition of the machine and one
-- of the abstract machine, with the same answer. Before each step and at the end the machine
-- refines the abstract machine. `limit` bounds the bytes of the active cache.
pub data Run : ℕ → MachineState → AbstractMachine → List Step → List Answer → MachineState → AbstractMachine → Type 0 where
  stop : {limit : ℕ} {d : MachineState} {p : AbstractMachine} → MachineRefines d p → Run limit d p [] [] d p
  step : {limit : ℕ} {d e f : MachineState} {p q r : AbstractMachine} {s : Step} {a : Answer} {ss : List Step} {as' : List Answer}
      → MachineRefines d p → MachineTransition d s a e → AbstractTransition limit p s a q → Run limit e q ss as' f r → Run limit d p (s ∷ ss) (a ∷ as') f r

-- Number of readers.
abbrev pub reader_count : ℕ
reader_count = 4

-- First state of the machine: a store, and no reader holds a lease.
abbrev pub initial_machine : State → MachineState
initial_machine store = record { store = store; readers = replicate reader_count None }

-- First state of the abstract machine: each key has the payload of its last record in the files.
-- Deleted ledgers have no keys, nothing is cached only, and no reader holds a lease.
abbrev pub initial_abstract : Files → Ledgers → AbstractMachine
initial_abstract files dead = record {
  store = record { map = live (scan_of files) dead; ledgers = opened_ledgers dead; active = finite.empty; flush = None; fronts = fronts_at 0 };
  readers = replicate reader_count None;
}

-- The main theorem. A store opens on the files, with the ledgers of `dead` deleted (`opened`). From
-- there the machine takes the steps, gives the answers and ends in `store` and `readers`. The
-- abstract machine takes the same steps with the same answers and ends in `plain`, and at every
-- moment the machine refines it (`run`).
--
-- No log is closed or removed while a reader holds a lease on it (`MachineTransition`). No reader
-- holds a lease at the end on a log that an answer reported as closed or removed (`unread`).
pub record Headline (settings : Settings) (files : Files) (dead : List ℕ) (steps : List Step) (answers : List Answer) (store : State)
    (readers : List (Option ReaderLease)) : Type 0 where
  pub first : State
  pub opened : IsOpened true files settings dead first
  pub plain : AbstractMachine
  pub run : Run settings.cache_limit (initial_machine first) (initial_abstract files (valid_ledgers dead)) steps answers
      (record { store = store; readers = readers }) plain
  pub unread : (log : ℕ) → WasClosedOrRemoved steps answers log → HasNoReader readers log
