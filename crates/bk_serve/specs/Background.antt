-- Which step of a compaction in the background may follow an answer. Read `Follows` first.
use Rattle.std.specs.Prelude.{◌≡◌, ⊤, Bool, true, false, ◌==◌, ◌||◌, Option, Some, Ok, Err}
use Rattle.bk_collect.specs.declared.answer.RetireAnswer.TheVariants as retires
use Rattle.bk_collect.specs.declared.answer.CloseAnswer.TheVariants as closes
use Rattle.bk_compact.specs.declared.answer.BeginAnswer.TheVariants as begins
use Rattle.bk_compact.specs.declared.answer.CopyAnswer.TheVariants as copies
use Rattle.bk_compact.specs.declared.answer.EndAnswer.TheVariants as ends
use Rattle.bk_compact.specs.declared.answer.SwitchAnswer.TheVariants as switches
use Rattle.bk_compact.specs.declared.answer.FinishAnswer.TheVariants as finishes
use Rattle.bk_drive.specs.declared.step.Work.{Work}
use Rattle.bk_drive.specs.declared.step.Work.TheVariants as works
use Rattle.bk_drive.specs.declared.step.Answer.{Answer}
use Rattle.bk_drive.specs.declared.step.Answer.TheVariants as answers

abbrev pub is_retired : Answer → Bool
is_retired (answers.Retire (retires.Retired log)) = true
is_retired _ = false

abbrev pub is_closed : Answer → Bool
is_closed (answers.Close closes.Closed) = true
is_closed _ = false

abbrev pub is_chosen : Answer → Bool
is_chosen (answers.Begin (Ok (begins.Chosen log))) = true
is_chosen _ = false

abbrev pub is_copied : Answer → Bool
is_copied (answers.Copy (Ok (copies.Copied n))) = true
is_copied _ = false

-- every entry of the source log had been examined
abbrev pub is_examined : Answer → Bool
is_examined (answers.Copy (Ok copies.AtEnd)) = true
is_examined _ = false

-- the target log was sealed and published
abbrev pub is_ended : Answer → Bool
is_ended (answers.EndCopy (Ok (ends.Ended n))) = true
is_ended _ = false

abbrev pub is_moved : Answer → Bool
is_moved (answers.Switch (switches.Moved n left)) = true
is_moved _ = false

-- no index entry is left to be switched
abbrev pub is_switched : Answer → Bool
is_switched (answers.Switch (switches.Moved n left)) = left == 0
is_switched _ = false

abbrev pub is_finished : Answer → Bool
is_finished (answers.Finish (finishes.Retired log)) = true
is_finished _ = false

abbrev pub is_failed : Answer → Bool
is_failed (answers.Remove (Err fault)) = true
is_failed (answers.Begin (Err fault)) = true
is_failed (answers.Copy (Err fault)) = true
is_failed (answers.EndCopy (Err fault)) = true
is_failed _ = false

-- A log is closed after it was retired, and removed after it was closed. Entries are copied after a
-- log was chosen, the copying ends after all were examined, the index is switched after that, and
-- the source log retired when nothing is left to be switched.
abbrev pub Follows : Answer → Option Work → Type 0
Follows answer (Some (works.Close log)) = is_retired answer ≡ true
Follows answer (Some (works.Remove log)) = is_closed answer ≡ true
Follows answer (Some (works.Copy n)) = (is_chosen answer || is_copied answer) ≡ true
Follows answer (Some works.EndCopy) = is_examined answer ≡ true
Follows answer (Some (works.Switch n)) = (is_ended answer || is_moved answer) ≡ true
Follows answer (Some works.Finish) = is_switched answer ≡ true
Follows answer _ = ⊤
