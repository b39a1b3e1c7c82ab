-- Answers of a step of the store alone: which are its own, and which are errors.
use Rattle.std.specs.Prelude.{◌≡◌, ℕ, Bool, true, false, is_err, Result}
use Rattle.bk_cache.specs.declared.swap.Swap.{Swap}
use Rattle.bk_collect.specs.declared.answer.CloseAnswer.{CloseAnswer}
use Rattle.bk_collect.specs.declared.answer.CollectFault.{CollectFault}
use Rattle.bk_collect.specs.declared.answer.RemoveAnswer.{RemoveAnswer}
use Rattle.bk_collect.specs.declared.answer.RetireAnswer.{RetireAnswer}
use Rattle.bk_compact.specs.declared.answer.BeginAnswer.{BeginAnswer}
use Rattle.bk_compact.specs.declared.answer.CopyAnswer.{CopyAnswer}
use Rattle.bk_compact.specs.declared.answer.EndAnswer.{EndAnswer}
use Rattle.bk_compact.specs.declared.answer.FinishAnswer.{FinishAnswer}
use Rattle.bk_compact.specs.declared.answer.GiveUpAnswer.{GiveUpAnswer}
use Rattle.bk_compact.specs.declared.answer.SwitchAnswer.{SwitchAnswer}
use Rattle.bk_drive.specs.declared.ledger_reads.LedgerReadAnswer.{LedgerReadAnswer}
use Rattle.bk_drive.specs.declared.ledger_reads.LedgerReadAnswer.TheVariants as reads
use Rattle.bk_drive.specs.declared.step.Answer.{Answer}
use Rattle.bk_drive.specs.declared.step.Answer.TheVariants as answers
use Rattle.bk_drive.specs.declared.step.Work.{Work}
use Rattle.bk_drive.specs.declared.step.Work.TheVariants as works
use Rattle.bk_flush.specs.declared.answer.PublishAnswer.{PublishAnswer}
use Rattle.bk_flush.specs.declared.answer.RollAnswer.{RollAnswer}
use Rattle.bk_flush.specs.declared.answer.WriteAnswer.{WriteAnswer}
use Rattle.bk_store.specs.declared.step_fault.StepFault.{StepFault}

-- the answer is one of this step
abbrev pub IsAnswerOf : Work → Answer → Type 0
IsAnswerOf works.Swap answer = (a : Swap) × (answer ≡ answers.Swap a)
IsAnswerOf works.WriteOne answer = (r : Result WriteAnswer StepFault) × (answer ≡ answers.Write r)
IsAnswerOf works.Publish answer = (r : Result PublishAnswer StepFault) × (answer ≡ answers.Publish r)
IsAnswerOf works.Roll answer = (r : Result RollAnswer StepFault) × (answer ≡ answers.Roll r)
IsAnswerOf (works.Retire log) answer = (a : RetireAnswer) × (answer ≡ answers.Retire a)
IsAnswerOf works.Rebuild answer = (r : Result ℕ CollectFault) × (answer ≡ answers.Rebuild r)
IsAnswerOf (works.Close log) answer = (a : CloseAnswer) × (answer ≡ answers.Close a)
IsAnswerOf (works.Remove log) answer = (r : Result RemoveAnswer CollectFault) × (answer ≡ answers.Remove r)
IsAnswerOf (works.Begin kind) answer = (r : Result BeginAnswer StepFault) × (answer ≡ answers.Begin r)
IsAnswerOf (works.Copy n) answer = (r : Result CopyAnswer StepFault) × (answer ≡ answers.Copy r)
IsAnswerOf works.EndCopy answer = (r : Result EndAnswer StepFault) × (answer ≡ answers.EndCopy r)
IsAnswerOf (works.Switch n) answer = (a : SwitchAnswer) × (answer ≡ answers.Switch a)
IsAnswerOf works.Finish answer = (a : FinishAnswer) × (answer ≡ answers.Finish a)
IsAnswerOf works.GiveUp answer = (a : GiveUpAnswer) × (answer ≡ answers.GiveUp a)

-- the answer of a read by ledger is an error
abbrev pub has_failed : LedgerReadAnswer → Bool
has_failed (reads.Holds answer) = false
has_failed (reads.IsFenced answer) = false
has_failed (reads.LastEntry answer) = false
has_failed (reads.Entries result) = is_err result
has_failed (reads.Ledgers result) = is_err result

-- the answer of the step is an error
abbrev pub is_failed : Answer → Bool
is_failed (answers.Add result) = is_err result
is_failed (answers.Take result) = is_err result
is_failed (answers.Fetch result) = is_err result
is_failed (answers.Release answer) = false
is_failed (answers.Delete result) = is_err result
is_failed (answers.Fence result) = is_err result
is_failed (answers.Swap answer) = false
is_failed (answers.Write result) = is_err result
is_failed (answers.Publish result) = is_err result
is_failed (answers.Roll result) = is_err result
is_failed (answers.Retire answer) = false
is_failed (answers.Rebuild result) = is_err result
is_failed (answers.Close answer) = false
is_failed (answers.Remove result) = is_err result
is_failed (answers.Begin result) = is_err result
is_failed (answers.Copy result) = is_err result
is_failed (answers.EndCopy result) = is_err result
is_failed (answers.Switch answer) = false
is_failed (answers.Finish answer) = false
is_failed (answers.GiveUp answer) = false
is_failed (answers.Read answer) = has_failed answer
is_failed (answers.Stats counts) = false
is_failed answers.Unrecorded = true
