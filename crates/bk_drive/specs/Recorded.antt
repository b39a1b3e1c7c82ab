-- Runs of the machine with a recorder, which makes durable what must be so before a step is
-- performed. Read `RunsRecorded` first, then `Records`.
use Rattle.std.specs.Prelude.{◌≡◌, ℕ, ◌<◌, ◌≤◌, ◌-◌, Bool, true, false, List, [], ◌∷◌, ◌++◌, length, map, replicate, Option, IsTrue, Ok, Err}
use Rattle.std.specs.List.{All}
use Rattle.bk_record.specs.Files.{Files}
use Rattle.bk_store.specs.State.{State}
use Rattle.bk_store.specs.declared.answer.FenceFault.TheVariants as fence_faults
use Rattle.bk_store.specs.declared.settings.Settings.{Settings}
use Rattle.bk_drive.specs.Abstract.{AbstractMachine}
use Rattle.bk_drive.specs.Machine.{ReaderLease}
use Rattle.bk_drive.specs.ReaderLeases.{AreOpenLeases, IsClosedOrRemoved, WasClosedOrRemoved}
use Rattle.bk_drive.specs.Failing.{IsDiskFault}
use Rattle.bk_drive.specs.Headline.{Headline, MachineRefines, Run}
use Rattle.bk_drive.specs.declared.step.Step.{Step}
use Rattle.bk_drive.specs.declared.step.Step.TheVariants as moves
use Rattle.bk_drive.specs.declared.step.Answer.{Answer}
use Rattle.bk_drive.specs.declared.step.Answer.TheVariants as replies

-- The recorder was asked for one step after another, until it refused one. It allowed the steps of
-- the second list.
pub data Records {R : Type 0} (Gives : R → Step → Bool → R → Type 0) : R → List Step → List Step → R → Type 0 where
  ended : {r : R} → Records Gives r [] [] r
  refused : {r s : R} {x : Step} {xs : List Step} → Gives r x false s → Records Gives r (x ∷ xs) [] s
  allowed : {r s t : R} {x : Step} {xs ys : List Step} → Gives r x true s → Records Gives s xs ys t → Records Gives r (x ∷ xs) (x ∷ ys) t

-- The answers of the steps that were performed, then `Unrecorded` for each other one.
abbrev pub AreAnswersTo : List Step → List Answer → List Answer → Type 0
AreAnswersTo steps told answers = answers ≡ told ++ replicate (length steps - length told) replies.Unrecorded

-- The ledger of a fence is fenced or deleted.
abbrev pub IsFenced : Answer → Type 0
IsFenced (replies.Fence (Ok done)) = Unit {0}
IsFenced (replies.Fence (Err fence_faults.Deleted)) = Unit {0}
IsFenced answer = ⊥

abbrev pub AreFenced : List Answer → Type 0
AreFenced = All IsFenced

-- A store opens on the files, with the ledgers of `dead` deleted. Those of `fenced` are fenced or
-- deleted, and then the steps that the recorder allows are performed. On an honest disk the main
-- theorem holds of the fences and of these steps.
pub record RunsRecorded {R : Type 0} (Gives : R → Step → Bool → R → Type 0) (Honest : Type 0) (settings : Settings) (files : Files)
    (dead fenced : List ℕ) (steps : List Step) (answers : List Answer) (store : State) (readers : List (Option ReaderLease))
    (before after : R) : Type 0 where
  pub performed : List Step
  pub told : List Answer
  pub recorded : Records Gives before steps performed after
  pub each : length told ≡ length performed
  pub answered : AreAnswersTo steps told answers
  pub fences : List Answer
  pub each_fence : length fences ≡ length fenced
  pub stand : AreFenced fences
  pub headline : Honest → Headline settings files dead (map moves.Fence fenced ++ performed) (fences ++ told) store readers

-- ---- parts of such a run

-- The machine takes the steps from a store and its readers to others, with these answers. On an
-- honest disk the abstract machine takes them beside it. `Sound` is the premise that views are
-- sound.
pub record Performs (Sound : Type 0) (store : State) (readers : List (Option ReaderLease)) (steps : List Step) (answers : List Answer)
    (store' : State) (readers' : List (Option ReaderLease)) : Type 0 where
  pub each : length answers ≡ length steps
  pub honest_is : store'.honest ≡ store.honest
  pub settings_are : store'.settings ≡ store.settings
  pub later : store.failures ≤ store'.failures
  pub counted : Sound → All (λ answer. IsDiskFault answer → store.failures < store'.failures) answers
  pub leases : AreOpenLeases store'.keeper readers'
  pub shut : (log : ℕ) → WasClosedOrRemoved steps answers log → IsClosedOrRemoved store' log
  pub stays : (log : ℕ) → IsClosedOrRemoved store log → IsClosedOrRemoved store' log
  pub plain : IsTrue store.honest → (p : AbstractMachine) → MachineRefines (record { store = store; readers = readers }) p
      → (q : AbstractMachine) × Run store.settings.cache_limit (record { store = store; readers = readers }) p steps answers
      (record { store = store'; readers = readers' }) q

-- The same for the steps that the recorder allows. The others are answered `Unrecorded`.
pub record PerformsRecorded {R : Type 0} (Gives : R → Step → Bool → R → Type 0) (Sound : Type 0) (store : State)
    (readers : List (Option ReaderLease)) (steps : List Step) (answers : List Answer) (store' : State) (readers' : List (Option ReaderLease))
    (before after : R) : Type 0 where
  pub performed : List Step
  pub told : List Answer
  pub recorded : Records Gives before steps performed after
  pub made : Performs Sound store readers performed told store' readers'
  pub answered : AreAnswersTo steps told answers
