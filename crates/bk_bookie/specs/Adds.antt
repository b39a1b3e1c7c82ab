-- Entries offered to an add, its answers, and the number of adds in a trail.
use Rattle.std.specs.Prelude.{◌≡◌, ℕ, ◌+◌, ◌<◌, Bool, true, false, List, length, Result, Ok, Err}
use Rattle.std.specs.List.{count_by}
use Rattle.bk_record.specs.Key.{EntryKey}
use Rattle.bk_record.specs.Record.{read_added}
use Rattle.bk_store.specs.declared.adding.AddKind.{AddKind}
use Rattle.bk_store.specs.declared.adding.AddKind.TheVariants.{Ordinary}
use Rattle.bk_store.specs.declared.mark.Mark.{Mark}
use Rattle.bk_store.specs.declared.mark.Mark.TheVariants.{Add, Delete, Fence}
use Rattle.bk_store.specs.declared.answer.Added.{Added}
use Rattle.bk_store.specs.declared.answer.Added.TheVariants.{Accepted, Held}
use Rattle.bk_store.specs.declared.answer.AddFault.{AddFault}
use Rattle.bk_store.specs.declared.answer.AddFault.TheVariants as add_faults
use Rattle.bk_bookie.specs.declared.add_request.AddRequest.{AddRequest}
use Rattle.bk_bookie.specs.declared.add_request.AddRequest.TheVariants.{Prepared, Lent}
use Rattle.bk_bookie.specs.declared.fault.CallFault.{CallFault}
use Rattle.bk_bookie.specs.declared.fault.CallFault.TheVariants.{Backwards, Of}

-- The mark is that of an add.
abbrev pub is_add : Mark → Bool
is_add (Add key digest) = true
is_add (Delete ledger) = false
is_add (Fence ledger) = false

-- Number of adds in a trail.
abbrev pub add_count : List Mark → ℕ
add_count trail = count_by is_add trail

-- Number of entries that the answer of an add accepts: 0 or 1.
abbrev pub accepted_count : {F : Type 0} → Result Added F → ℕ
accepted_count (Ok (Accepted receipt)) = 1
accepted_count (Ok Held) = 0
accepted_count (Err fault) = 0

-- The payload of an offered entry.
abbrev pub payload_of : AddRequest → List ℕ
payload_of (Prepared entry) = entry
payload_of (Lent payload) = payload.now

-- The payload is that of an entry.
abbrev pub IsEntry : List ℕ → Type 0
IsEntry payload = (key : EntryKey) × (read_added payload ≡ Ok key)

-- What the answer of an add says of its kind and payload. Only a payload that is no entry is `Bad`,
-- only an ordinary add is `Fenced`, and only a payload beyond the limit is `Full`.
abbrev pub AnswersAdd : AddKind → List ℕ → Result Added (CallFault AddFault) → Type 0
AnswersAdd kind payload (Ok answer) = IsEntry payload
AnswersAdd kind payload (Err (Backwards seen front)) = Unit {0}
AnswersAdd kind payload (Err (Of (add_faults.Bad fault))) = read_added payload ≡ Err fault
AnswersAdd kind payload (Err (Of add_faults.Deleted)) = IsEntry payload
AnswersAdd kind payload (Err (Of add_faults.Fenced)) = IsEntry payload × (kind ≡ Ordinary)
AnswersAdd kind payload (Err (Of (add_faults.Full used limit))) = IsEntry payload × (limit < used + length payload)
AnswersAdd kind payload (Err (Of add_faults.Memory)) = IsEntry payload
