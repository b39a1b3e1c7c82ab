-- What a run of a script guarantees: it read the input to its end, and wrote one line for each step
-- that the input encodes. On an honest disk the answers are those of the main theorem.
use Rattle.std.specs.Prelude.{◌≡◌, ℕ, List, length, Option}
use Rattle.std.specs.Io.KnownBytes.{Appends, Consumes, IsAtEnd}
use Rattle.bk_record.specs.Files.{Files}
use Rattle.bk_drive.specs.declared.step.Step.{Step}
use Rattle.bk_drive.specs.declared.step.Answer.{Answer}
use Rattle.bk_store.specs.declared.settings.Settings.{Settings}
use Rattle.bk_store.specs.State.{State}
use Rattle.bk_drive.specs.Machine.{ReaderLease}
use Rattle.bk_drive.specs.Headline.{Headline}
use Rattle.bk_drive.specs.Failing.{NoneIsDiskFault}
use Rattle.std.specs.FinMap as finite
use Rattle.bk_script.specs.Script.{IsScript}
use Rattle.bk_script.specs.Text.{lines_of}

-- The main theorem allows these answers to the steps, from a store that was opened on these files.
pub record AreAllowed (files : Files) (settings : Settings) (dead : List ℕ) (steps : List Step) (answers : List Answer) : Type 0 where
  pub store : State
  pub readers : List (Option ReaderLease)
  pub headline : Headline settings files dead steps answers store readers

-- The answers to the steps, on a disk with these files and with these ledgers deleted. `Honest` is
-- the premise that the disk is honest, `Unfailing` that its device and its views never fail.
pub record AnswersSteps (Honest Unfailing : Type 0) (files : Files) (settings : Settings) (dead : List ℕ) (steps : List Step)
    (answers : List Answer) : Type 0 where
  -- One for each step.
  pub each : length answers ≡ length steps
  pub allowed : Honest → AreAllowed files settings dead steps answers
  -- No answer is `Disk`.
  pub unfailing : Unfailing → NoneIsDiskFault answers

-- The answers to the steps that the input encodes, with the bytes of the reader before and after.
pub record AnswersScript (Honest Unfailing : Type 0) (files : Files) (settings : Settings) (dead : List ℕ) (unread read : Option (List ℕ))
    (answers : List Answer) : Type 0 where
  pub input : List ℕ
  pub steps : List Step
  -- The reader returned the input and has no more bytes.
  pub taken : Consumes unread read input
  pub ended : IsAtEnd read
  pub spelled : IsScript input steps
  pub answered : AnswersSteps Honest Unfailing files settings dead steps answers

-- The same with the bytes of the writer, to which one line was written for each answer.
pub record RunsOn (Honest Unfailing : Type 0) (files : Files) (settings : Settings) (dead : List ℕ)
    (unread read shown written : Option (List ℕ)) : Type 0 where
  pub answers : List Answer
  pub answered : AnswersScript Honest Unfailing files settings dead unread read answers
  pub printed : Appends shown written (lines_of answers)

-- The same on an honest disk without files that never fails.
abbrev pub RunsScript : Settings → List ℕ → Option (List ℕ) → Option (List ℕ) → Option (List ℕ) → Option (List ℕ) → Type 0
RunsScript settings dead unread read shown written = RunsOn (Unit {0}) (Unit {0}) finite.empty settings dead unread read shown written
