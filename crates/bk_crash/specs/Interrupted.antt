-- A crash during a step of a store. Read `SurvivesStep` first.
use Rattle.std.specs.Prelude.{◌≡◌, ◌⊎◌, ℕ, true, false, List, Some, IsSome, Result, Ok}
use Rattle.std.specs.FinMap as finite
use Rattle.std.specs.FinSet as set
use Rattle.bk_record.specs.Key.{EntryKey}
use Rattle.bk_record.specs.Record.{read_added}
use Rattle.bk_record.specs.Files.{Files}
use Rattle.bk_record.specs.Scan.{Payloads, Ledgers}
use Rattle.bk_store.specs.State.{State}
use Rattle.bk_store.specs.Contents.{IsContents, contents_at}
use Rattle.bk_store.specs.Opening.{IsOpened}
use Rattle.bk_store.specs.Transitions.{AddTransition, DeleteTransition, FenceTransition}
use Rattle.bk_store.specs.Crash.{MayLeave, StayDead}
use Rattle.bk_store.specs.declared.adding.AddKind.TheVariants.{Ordinary, Recovery}
use Rattle.bk_store.specs.declared.answer.Added.{Added}
use Rattle.bk_store.specs.declared.answer.AddFault.{AddFault}
use Rattle.bk_store.specs.declared.answer.DeleteFault.{DeleteFault}
use Rattle.bk_store.specs.declared.answer.Fence.{Fence}
use Rattle.bk_store.specs.declared.answer.FenceFault.{FenceFault}
use Rattle.bk_store.specs.declared.settings.Settings.{Settings}
use Rattle.bk_drive.specs.Machine.{WorkTransition}
use Rattle.bk_drive.specs.declared.step.Answer.{Answer}
use Rattle.bk_drive.specs.declared.step.Step.{Step}
use Rattle.bk_drive.specs.declared.step.Step.TheVariants as steps

-- ---- the step

-- The step takes the store from one state to another. A take changes at most the leases; no other
-- step of a reader calls the store.
abbrev pub StepTransition : State → Step → State → Type 0
StepTransition s (steps.Work work) t = (a : Answer) × WorkTransition s work a t
StepTransition s (steps.Add entry) t = (r : Result Added AddFault) × AddTransition s Ordinary entry.items r t
StepTransition s (steps.AddRecovery entry) t = (r : Result Added AddFault) × AddTransition s Recovery entry.items r t
StepTransition s (steps.Delete ledger) t = (r : Result ℕ DeleteFault) × DeleteTransition s ledger r t
StepTransition s (steps.Fence ledger) t = (r : Result Fence FenceFault) × FenceTransition s ledger r t
StepTransition s (steps.Take reader key) t = t ≡ record s { keeper = t.keeper }
StepTransition s step t = t ≡ s

-- The deleted ledgers, with the one that the step deletes.
abbrev pub dead_after : Step → Ledgers → Ledgers
dead_after (steps.Delete ledger) dead = set.insert dead ledger
dead_after step dead = dead

-- The step adds this entry.
abbrev pub Adds : Step → EntryKey → List ℕ → Type 0
Adds (steps.Add entry) key payload = (read_added entry.items ≡ Ok key) × (payload ≡ entry.items)
Adds (steps.AddRecovery entry) key payload = (read_added entry.items ≡ Ok key) × (payload ≡ entry.items)
Adds step key payload = ⊥

-- A step keeps each published entry of a live ledger, with its payload. It adds no entry but its
-- own, and deletes no ledger but its own.
pub record KeepsPublished (before : State) (step : Step) (after : State) : Type 0 where
  pub lives : (ledger : ℕ) → set.contains (dead_after step before.ledgers.dead) ledger ≡ false → set.contains after.ledgers.dead ledger ≡ false
  pub published : (key : EntryKey) → IsSome (finite.get before.index key) → set.contains after.ledgers.dead key.ledger ≡ false
      → IsSome (finite.get after.index key) × (contents_at after key ≡ contents_at before key)
  pub accepted : (key : EntryKey) (payload : List ℕ) → contents_at after key ≡ Some payload
      → (contents_at before key ≡ Some payload) ⊎ Adds step key payload

-- ---- the crash

-- The opened store has each entry that was published before the step, of a ledger that is not
-- deleted at the opening, with its payload. It has no entry but those accepted before the step and
-- the one that the step adds.
pub record HasPublished (before : State) (map : Payloads) (step : Step) (later : Ledgers) (found : Payloads) : Type 0 where
  pub published : (key : EntryKey) → IsSome (finite.get before.index key) → set.contains later key.ledger ≡ false
      → (payload : List ℕ) × (finite.get map key ≡ Some payload) × (finite.get found key ≡ Some payload)
  pub accepted : (key : EntryKey) (payload : List ℕ) → finite.get found key ≡ Some payload → (finite.get map key ≡ Some payload) ⊎ Adds step key payload

-- Crash safety during a step. The files of the disk, its removed files and the synced parts of its
-- logs are those when the power fails. A store is opened on any files that the crash may leave, with
-- at least the ledgers deleted that were so before the step or that the step deletes. It has each
-- entry that was published before the step, and no entry but those accepted before and the step's.
abbrev pub SurvivesStep : Files → Files → Files → State → Step → Type 0
SurvivesStep files gone synced before step = (map : Payloads) × IsContents map before
    × ((left : Files) (settings : Settings) (dead : List ℕ) (opened : State) → MayLeave files gone synced left → IsOpened true left settings dead opened
    → StayDead (dead_after step before.ledgers.dead) opened.ledgers.dead
    → (found : Payloads) × (IsContents found opened × HasPublished before map step opened.ledgers.dead found))
