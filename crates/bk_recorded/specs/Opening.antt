-- A store that is opened with the deletions and the fences of records. Read `IsReopened` first.
use Rattle.std.specs.Prelude.{◌≡◌, ◌⊎◌, ℕ, ◌<◌, ◌^◌, true, List, Option}
use Rattle.std.specs.FinSet as set
use Rattle.bk_record.specs.Files.{Files}
use Rattle.bk_manifest.specs.Fact.{Fact}
use Rattle.bk_manifest.specs.Keeping.{Kept, durable}
use Rattle.bk_store.specs.State.{State}
use Rattle.bk_store.specs.Transitions.{valid_ledgers}
use Rattle.bk_store.specs.Opening.{IsOpened}
use Rattle.bk_store.specs.declared.settings.Settings.{Settings}
use Rattle.bk_drive.specs.Abstract.{AbstractMachine}
use Rattle.bk_drive.specs.Machine.{ReaderLease}
use Rattle.bk_drive.specs.Headline.{Run, initial_machine}
use Rattle.bk_drive.specs.Recorded.{Records, AreAnswersTo}
use Rattle.bk_drive.specs.declared.step.Step.{Step}
use Rattle.bk_drive.specs.declared.step.Answer.{Answer}
use Rattle.bk_recorded.specs.Ledgers.{is_deleted, is_fenced}
use Rattle.bk_recorded.specs.Recording.{RecordsStep}

-- The lists have exactly the recorded ledgers.
pub record AreOf (records : List Fact) (deleted fenced : List ℕ) : Type 0 where
  pub deletions : (ledger : ℕ) → ledger < 2 ^ 63 → set.contains (valid_ledgers deleted) ledger ≡ is_deleted records ledger
  pub fences : (ledger : ℕ) → ledger < 2 ^ 63 → set.contains (valid_ledgers fenced) ledger ≡ is_fenced records ledger

-- A store opens on the files, with exactly the recorded deletions (`first`). Then each ledger of a
-- recorded fence is fenced, unless it is deleted. Nothing else changes.
pub record IsReopened (files : Files) (settings : Settings) (records : List Fact) (s : State) : Type 0 where
  pub first : State
  pub dead : List ℕ
  pub opened : IsOpened true files settings dead first
  pub deleted : (ledger : ℕ) → ledger < 2 ^ 63 → set.contains first.ledgers.dead ledger ≡ is_deleted records ledger
  pub same : s ≡ record first { ledgers = s.ledgers }
  pub dead_are : s.ledgers.dead ≡ first.ledgers.dead
  pub fenced : (ledger : ℕ) → ledger < 2 ^ 63 → is_fenced records ledger ≡ true
      → (set.contains s.ledgers.fenced ledger ≡ true) ⊎ (set.contains s.ledgers.dead ledger ≡ true)
  pub only : (ledger : ℕ) → ledger < 2 ^ 63 → set.contains s.ledgers.fenced ledger ≡ true → is_fenced records ledger ≡ true

-- The machine begins with such a store, and takes the steps that are recorded, beside the abstract
-- machine. The others are answered `Unrecorded`.
pub record RunsKept (files : Files) (settings : Settings) (before after : Kept) (steps : List Step) (answers : List Answer) (store : State)
    (readers : List (Option ReaderLease)) : Type 0 where
  pub first : State
  pub reopened : IsReopened files settings (durable before) first
  pub performed : List Step
  pub told : List Answer
  pub recorded : Records RecordsStep before steps performed after
  pub answered : AreAnswersTo steps told answers
  pub plain : AbstractMachine
  pub plain' : AbstractMachine
  pub run : Run settings.cache_limit (initial_machine first) plain performed told (record { store = store; readers = readers }) plain'
