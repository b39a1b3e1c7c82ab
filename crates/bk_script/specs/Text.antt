-- The texts of answers and faults (this project's rule). Numbers are decimal, data is lower-case
-- hexadecimal.
use Rattle.std.specs.Prelude.{ℕ, ◌/◌, ◌%◌, ◌==◌, Bool, true, false, if◌then◌else◌, List, [], ◌∷◌, ◌++◌, length, drop, codes, Option, Some, None, Result, Ok, Err}
use Rattle.std.specs.Global.{Vec}
use Rattle.std.specs.declared.alloc.AllocError.{AllocError}
use Rattle.std.specs.List.{flat_map}
use Rattle.std.specs.Fmt.{decimal, signed_decimal, digit_glyph}
use Rattle.bk_record.specs.Location.{packed}
use Rattle.bk_record.specs.declared.fault.RecordFault.{RecordFault}
use Rattle.bk_record.specs.declared.fault.RecordFault.TheVariants as record_faults
use Rattle.bk_head.specs.declared.fault.HeadFault.{HeadFault}
use Rattle.bk_head.specs.declared.fault.HeadFault.TheVariants as head_faults
use Rattle.bk_log.specs.declared.fault.FetchFault.{FetchFault}
use Rattle.bk_log.specs.declared.fault.FetchFault.TheVariants as fetch_faults
use Rattle.bk_store.specs.declared.answer.Added.{Added}
use Rattle.bk_store.specs.declared.answer.Added.TheVariants.{Accepted, Held}
use Rattle.bk_store.specs.declared.answer.AddFault.{AddFault}
use Rattle.bk_store.specs.declared.answer.AddFault.TheVariants as add_faults
use Rattle.bk_store.specs.declared.answer.TakeFault.{TakeFault}
use Rattle.bk_store.specs.declared.answer.TakeFault.TheVariants as take_faults
use Rattle.bk_store.specs.declared.answer.DeleteFault.{DeleteFault}
use Rattle.bk_store.specs.declared.answer.DeleteFault.TheVariants as delete_faults
use Rattle.bk_store.specs.declared.answer.Fence.{Fence}
use Rattle.bk_store.specs.declared.answer.Fence.TheVariants as fences
use Rattle.bk_store.specs.declared.answer.FenceFault.{FenceFault}
use Rattle.bk_store.specs.declared.answer.FenceFault.TheVariants as fence_faults
use Rattle.bk_cache.specs.declared.swap.Swap.{Swap}
use Rattle.bk_cache.specs.declared.swap.Swap.TheVariants as swaps
use Rattle.bk_store.specs.declared.answer.LogCause.{LogCause}
use Rattle.bk_store.specs.declared.answer.LogCause.TheVariants as causes
use Rattle.bk_flush.specs.declared.answer.WriteAnswer.{WriteAnswer}
use Rattle.bk_flush.specs.declared.answer.WriteAnswer.TheVariants as writes
use Rattle.bk_flush.specs.declared.answer.PublishAnswer.{PublishAnswer}
use Rattle.bk_flush.specs.declared.answer.PublishAnswer.TheVariants as publishes
use Rattle.bk_flush.specs.declared.answer.RollAnswer.{RollAnswer}
use Rattle.bk_flush.specs.declared.answer.RollAnswer.TheVariants as rolls
use Rattle.bk_store.specs.declared.step_fault.StepFault.{StepFault}
use Rattle.bk_store.specs.declared.step_fault.StepFault.TheVariants as step_faults
use Rattle.bk_collect.specs.declared.answer.RetireAnswer.{RetireAnswer}
use Rattle.bk_collect.specs.declared.answer.RetireAnswer.TheVariants as retires
use Rattle.bk_collect.specs.declared.answer.CloseAnswer.{CloseAnswer}
use Rattle.bk_collect.specs.declared.answer.CloseAnswer.TheVariants as closings
use Rattle.bk_collect.specs.declared.answer.CollectFault.{CollectFault}
use Rattle.bk_collect.specs.declared.answer.CollectFault.TheVariants as collect_faults
use Rattle.bk_collect.specs.declared.answer.RemoveAnswer.{RemoveAnswer}
use Rattle.bk_collect.specs.declared.answer.RemoveAnswer.TheVariants as removals
use Rattle.bk_compact.specs.declared.answer.BeginAnswer.{BeginAnswer}
use Rattle.bk_compact.specs.declared.answer.BeginAnswer.TheVariants as begins
use Rattle.bk_compact.specs.declared.answer.CopyAnswer.{CopyAnswer}
use Rattle.bk_compact.specs.declared.answer.CopyAnswer.TheVariants as copies
use Rattle.bk_compact.specs.declared.answer.EndAnswer.{EndAnswer}
use Rattle.bk_compact.specs.declared.answer.EndAnswer.TheVariants as ends
use Rattle.bk_compact.specs.declared.answer.SwitchAnswer.{SwitchAnswer}
use Rattle.bk_compact.specs.declared.answer.SwitchAnswer.TheVariants as switches
use Rattle.bk_compact.specs.declared.answer.FinishAnswer.{FinishAnswer}
use Rattle.bk_compact.specs.declared.answer.FinishAnswer.TheVariants as finishes
use Rattle.bk_compact.specs.declared.answer.GiveUpAnswer.{GiveUpAnswer}
use Rattle.bk_compact.specs.declared.answer.GiveUpAnswer.TheVariants as give_ups
use Rattle.bk_drive.specs.declared.step.TakeAnswer.{TakeAnswer}
use Rattle.bk_drive.specs.declared.step.TakeAnswer.TheVariants as takes
use Rattle.bk_drive.specs.declared.step.FetchAnswer.{FetchAnswer}
use Rattle.bk_drive.specs.declared.step.FetchAnswer.TheVariants as fetches
use Rattle.bk_drive.specs.declared.step.ReleaseAnswer.{ReleaseAnswer}
use Rattle.bk_drive.specs.declared.step.ReleaseAnswer.TheVariants as releases
use Rattle.bk_drive.specs.declared.counts.Counts.{Counts}
use Rattle.bk_drive.specs.declared.ledger_reads.LedgerReadAnswer.{LedgerReadAnswer}
use Rattle.bk_drive.specs.declared.ledger_reads.LedgerReadAnswer.TheVariants as told
use Rattle.bk_drive.specs.declared.step.Answer.{Answer}
use Rattle.bk_drive.specs.declared.step.Answer.TheVariants as answers

-- A byte as two digits, and bytes as pairs of digits.
abbrev pub digit_pair : ℕ → List ℕ
digit_pair byte = digit_glyph false (byte / 16) ∷ digit_glyph false (byte % 16) ∷ []

abbrev pub hex_of : List ℕ → List ℕ
hex_of = flat_map digit_pair

-- Data, or a sign if there is none.
abbrev pub data_text : List ℕ → List ℕ
data_text [] = codes "-"
data_text (byte ∷ bytes) = hex_of (byte ∷ bytes)

-- The data of a payload, after its two ids.
abbrev pub shown_data : List ℕ → List ℕ
shown_data payload = data_text (drop 16 payload)

abbrev pub record_fault_text : RecordFault → List ℕ
record_fault_text (record_faults.Short n) = codes "short " ++ decimal n
record_fault_text record_faults.Negative = codes "negative number"
record_fault_text (record_faults.TooLong n) = codes "too long " ++ decimal n
record_fault_text record_faults.Memory = codes "memory"

abbrev pub add_fault_text : AddFault → List ℕ
add_fault_text (add_faults.Bad fault) = record_fault_text fault
add_fault_text add_faults.Deleted = codes "deleted"
add_fault_text add_faults.Fenced = codes "fenced"
add_fault_text (add_faults.Full used limit) = codes "full " ++ decimal used ++ codes " " ++ decimal limit
add_fault_text add_faults.Memory = codes "memory"

abbrev pub add_text : Result Added AddFault → List ℕ
add_text (Ok (Accepted receipt)) = codes "accepted"
add_text (Ok Held) = codes "held"
add_text (Err fault) = codes "fault " ++ add_fault_text fault

abbrev pub take_text : Result TakeAnswer TakeFault → List ℕ
take_text (Ok takes.NoReader) = codes "no reader"
take_text (Ok takes.ReaderBusy) = codes "reader busy"
take_text (Ok takes.Deleted) = codes "deleted"
take_text (Ok takes.NotHeld) = codes "not held"
take_text (Ok (takes.Cached payload)) = codes "cached " ++ shown_data payload.value.items
take_text (Ok (takes.Leased place)) = codes "leased " ++ decimal (packed place)
take_text (Err take_faults.NoSeat) = codes "fault no seat"
take_text (Err take_faults.TooMany) = codes "fault too many leases"
take_text (Err take_faults.Memory) = codes "fault memory"

abbrev pub fetch_fault_text : FetchFault → List ℕ
fetch_fault_text fetch_faults.Disk = codes "disk"
fetch_fault_text fetch_faults.NotThere = codes "not there"
fetch_fault_text fetch_faults.Memory = codes "memory"
fetch_fault_text fetch_faults.Odd = codes "odd disk"

abbrev pub fetch_text : Result FetchAnswer FetchFault → List ℕ
fetch_text (Ok fetches.NoReader) = codes "no reader"
fetch_text (Ok fetches.NoLease) = codes "no lease"
fetch_text (Ok (fetches.Bytes payload)) = codes "bytes " ++ shown_data payload.items
fetch_text (Err fault) = codes "fault " ++ fetch_fault_text fault

abbrev pub release_text : ReleaseAnswer → List ℕ
release_text releases.NoReader = codes "no reader"
release_text releases.NoLease = codes "no lease"
release_text releases.Released = codes "released"

abbrev pub delete_fault_text : DeleteFault → List ℕ
delete_fault_text delete_faults.AlreadyDeleted = codes "already deleted"
delete_fault_text delete_faults.Memory = codes "memory"

abbrev pub delete_text : Result ℕ DeleteFault → List ℕ
delete_text (Ok n) = codes "dropped " ++ decimal n
delete_text (Err fault) = codes "fault " ++ delete_fault_text fault

abbrev pub fence_fault_text : FenceFault → List ℕ
fence_fault_text fence_faults.Deleted = codes "deleted"
fence_fault_text fence_faults.Memory = codes "memory"

abbrev pub fence_text : Result Fence FenceFault → List ℕ
fence_text (Ok fences.Fenced) = codes "fenced"
fence_text (Ok fences.AlreadyFenced) = codes "already fenced"
fence_text (Err fault) = codes "fault " ++ fence_fault_text fault

abbrev pub swap_text : Swap → List ℕ
swap_text swaps.Running = codes "running"
swap_text swaps.Nothing = codes "nothing"
swap_text (swaps.Swapped n) = codes "swapped " ++ decimal n

abbrev pub step_fault_text : StepFault → List ℕ
step_fault_text step_faults.Disk = codes "disk"
step_fault_text (step_faults.Memory n) = codes "memory after " ++ decimal n
step_fault_text step_faults.LogsFull = codes "logs full"
step_fault_text step_faults.NoMoreIds = codes "no more ids"
step_fault_text step_faults.Odd = codes "odd disk"

abbrev pub write_text : Result WriteAnswer StepFault → List ℕ
write_text (Ok writes.NoFlush) = codes "no flush"
write_text (Ok writes.AllWritten) = codes "all written"
write_text (Ok (writes.Wrote place)) = codes "wrote " ++ decimal (packed place)
write_text (Err fault) = codes "fault " ++ step_fault_text fault

abbrev pub publish_text : Result PublishAnswer StepFault → List ℕ
publish_text (Ok publishes.NoFlush) = codes "no flush"
publish_text (Ok publishes.NotAllWritten) = codes "not all written"
publish_text (Ok (publishes.Published n)) = codes "published " ++ decimal n
publish_text (Err fault) = codes "fault " ++ step_fault_text fault

abbrev pub roll_text : Result RollAnswer StepFault → List ℕ
roll_text (Ok rolls.FlushRunning) = codes "flush running"
roll_text (Ok rolls.NothingOpen) = codes "nothing open"
roll_text (Ok (rolls.Sealed log)) = codes "sealed " ++ decimal log
roll_text (Err fault) = codes "fault " ++ step_fault_text fault

abbrev pub retire_text : RetireAnswer → List ℕ
retire_text retires.NoLog = codes "no log"
retire_text retires.InUse = codes "in use"
retire_text (retires.Retired log) = codes "retired " ++ decimal log
retire_text (retires.StillNamed n) = codes "still named " ++ decimal n

abbrev pub head_fault_text : HeadFault → List ℕ
head_fault_text head_faults.BadMagic = codes "bad magic"
head_fault_text (head_faults.Version version) = codes "version " ++ decimal version
head_fault_text head_faults.Negative = codes "negative number"
head_fault_text (head_faults.NotAMap at) = codes "not a map " ++ decimal at
head_fault_text (head_faults.MapLength at) = codes "map length " ++ decimal at
head_fault_text (head_faults.Repeated ledger) = codes "repeated " ++ decimal ledger
head_fault_text (head_faults.CountDiffers found) = codes "count differs " ++ decimal found
head_fault_text head_faults.Memory = codes "memory"

abbrev pub cause_text : LogCause → List ℕ
cause_text (causes.Header fault) = head_fault_text fault
cause_text (causes.BadLength at length) = codes "bad length " ++ decimal at ++ codes " " ++ signed_decimal length

abbrev pub collect_fault_text : CollectFault → List ℕ
collect_fault_text collect_faults.Disk = codes "disk"
collect_fault_text collect_faults.Memory = codes "memory"
collect_fault_text (collect_faults.Log id cause) = codes "log " ++ decimal id ++ codes ": " ++ cause_text cause
collect_fault_text collect_faults.Odd = codes "odd disk"

abbrev pub rebuild_text : Result ℕ CollectFault → List ℕ
rebuild_text (Ok n) = codes "rebuilt " ++ decimal n
rebuild_text (Err fault) = codes "fault " ++ collect_fault_text fault

abbrev pub close_text : CloseAnswer → List ℕ
close_text closings.NoLog = codes "no log"
close_text closings.NotRetired = codes "not retired"
close_text closings.Closed = codes "closed"
close_text (closings.Leased n) = codes "leased " ++ decimal n

abbrev pub remove_text : Result RemoveAnswer CollectFault → List ℕ
remove_text (Ok removals.NoLog) = codes "no log"
remove_text (Ok removals.NotClosed) = codes "not closed"
remove_text (Ok removals.Removed) = codes "removed"
remove_text (Err fault) = codes "fault " ++ collect_fault_text fault

abbrev pub begin_text : Result BeginAnswer StepFault → List ℕ
begin_text (Ok begins.JobRunning) = codes "job running"
begin_text (Ok begins.NothingToDo) = codes "nothing to do"
begin_text (Ok (begins.Chosen log)) = codes "chosen " ++ decimal log
begin_text (Err fault) = codes "fault " ++ step_fault_text fault

abbrev pub copy_text : Result CopyAnswer StepFault → List ℕ
copy_text (Ok copies.NoJob) = codes "no job"
copy_text (Ok copies.NotNow) = codes "not now"
copy_text (Ok copies.AtEnd) = codes "at end"
copy_text (Ok (copies.Copied n)) = codes "copied " ++ decimal n
copy_text (Err fault) = codes "fault " ++ step_fault_text fault

abbrev pub end_text : Result EndAnswer StepFault → List ℕ
end_text (Ok ends.NoJob) = codes "no job"
end_text (Ok ends.NotNow) = codes "not now"
end_text (Ok ends.NotAtEnd) = codes "not at end"
end_text (Ok (ends.Ended n)) = codes "ended " ++ decimal n
end_text (Err fault) = codes "fault " ++ step_fault_text fault

abbrev pub switch_text : SwitchAnswer → List ℕ
switch_text switches.NoJob = codes "no job"
switch_text switches.NotNow = codes "not now"
switch_text (switches.Moved n left) = codes "moved " ++ decimal n ++ codes " " ++ decimal left

abbrev pub finish_text : FinishAnswer → List ℕ
finish_text finishes.NoJob = codes "no job"
finish_text finishes.NotNow = codes "not now"
finish_text (finishes.Left n) = codes "left " ++ decimal n
finish_text (finishes.StillNamed n) = codes "still named " ++ decimal n
finish_text (finishes.Retired log) = codes "retired " ++ decimal log

abbrev pub give_up_text : GiveUpAnswer → List ℕ
give_up_text give_ups.NoJob = codes "no job"
give_up_text give_ups.GivenUp = codes "given up"

abbrev pub yes_or_no : Bool → List ℕ
yes_or_no true = codes "yes"
yes_or_no false = codes "no"

abbrev pub last_text : Option ℕ → List ℕ
last_text None = codes "no entry"
last_text (Some entry) = codes "last " ++ decimal entry

-- Numbers, each behind a space.
abbrev pub spaced : List ℕ → List ℕ
spaced = flat_map (λ n. 32 ∷ decimal n)

-- The numbers of a page behind a word, or the text of an empty page.
abbrev pub page_text : List ℕ → List ℕ → Result (Vec ℕ) AllocError → List ℕ
page_text word none (Ok page) = if length page.items == 0 then none else word ++ spaced page.items
page_text word none (Err fault) = codes "fault memory"

abbrev pub read_text : LedgerReadAnswer → List ℕ
read_text (told.Holds is) = yes_or_no is
read_text (told.IsFenced is) = yes_or_no is
read_text (told.LastEntry last) = last_text last
read_text (told.Entries page) = page_text (codes "entries") (codes "no entry") page
read_text (told.Ledgers page) = page_text (codes "ledgers") (codes "no ledger") page

-- Bytes in the caches, marks of the trail, and how many of these are durable.
abbrev pub stats_text : Counts → List ℕ
stats_text counts =
    codes "stats cached " ++ decimal counts.cached ++ codes " flushing " ++ decimal counts.flushing
    ++ codes " marks " ++ decimal counts.front ++ codes " durable " ++ decimal counts.durable

-- The text of an answer.
abbrev pub text_of : Answer → List ℕ
text_of (answers.Add answer) = add_text answer
text_of (answers.Take answer) = take_text answer
text_of (answers.Fetch answer) = fetch_text answer
text_of (answers.Release answer) = release_text answer
text_of (answers.Delete answer) = delete_text answer
text_of (answers.Fence answer) = fence_text answer
text_of (answers.Swap answer) = swap_text answer
text_of (answers.Write answer) = write_text answer
text_of (answers.Publish answer) = publish_text answer
text_of (answers.Roll answer) = roll_text answer
text_of (answers.Retire answer) = retire_text answer
text_of (answers.Rebuild answer) = rebuild_text answer
text_of (answers.Close answer) = close_text answer
text_of (answers.Remove answer) = remove_text answer
text_of (answers.Begin answer) = begin_text answer
text_of (answers.Copy answer) = copy_text answer
text_of (answers.EndCopy answer) = end_text answer
text_of (answers.Switch answer) = switch_text answer
text_of (answers.Finish answer) = finish_text answer
text_of (answers.GiveUp answer) = give_up_text answer
text_of (answers.Read answer) = read_text answer
text_of (answers.Stats counts) = stats_text counts
text_of answers.Unrecorded = codes "fault disk"

-- One line for each answer.
abbrev pub lines_of : List Answer → List ℕ
lines_of = flat_map (λ answer. text_of answer ++ 10 ∷ [])
