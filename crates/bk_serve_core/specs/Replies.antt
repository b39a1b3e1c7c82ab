-- Replies, their bytes, and what bytes reply. Read `Told`, `told_parts` and `replied` first.
use Rattle.std.specs.Prelude.{ℕ, ◌==◌, ◌||◌, ◌&&◌, Bool, List, [], ◌∷◌, length, drop, Result, Ok, Err, nat_le, nat_lt, if◌then◌else◌}
use Rattle.bk_serve_core.specs.declared.fault.Fault.{Fault}
use Rattle.bk_serve_core.specs.declared.fault.Fault.TheVariants.{NoKind, UnknownKind, BadLength}
use Rattle.bk_serve_core.specs.declared.done.Done.{Done}
use Rattle.bk_serve_core.specs.declared.done.Done.TheVariants as d
use Rattle.bk_serve_core.specs.declared.refusal.Refusal.{Refusal}
use Rattle.bk_serve_core.specs.declared.refusal.Refusal.TheVariants as f
use Rattle.bk_serve_core.specs.declared.ended.Ended.{Ended}
use Rattle.bk_serve_core.specs.declared.ended.Ended.TheVariants as e
use Rattle.bk_serve_core.specs.declared.reply.Reply.{Reply}
use Rattle.bk_serve_core.specs.declared.reply.Reply.TheVariants as r
use Rattle.bk_serve_core.specs.Fields.{Parts, parts, word, body_of, FitsLayout}
use Rattle.bk_serve_core.specs.Layouts.{fits, reply_layout}

-- what was done, without where its bytes lie in memory
pub data Answer : Type 0 where
  welcome : (version largest in_flight page_ids : ℕ) → Answer
  accepted : (number : ℕ) (digest : List ℕ) → Answer
  held : Answer
  entry : (ledger entry_id : ℕ) (content : List ℕ) → Answer
  not_held : Answer
  last : (entry_id : ℕ) → Answer
  says_yes : Answer
  says_no : Answer
  page : (ids : List ℕ) → Answer
  fenced_now : Answer
  fenced_before : Answer
  dropped : (entries : ℕ) → Answer
  stored : Answer
  attribute : (value : List ℕ) → Answer
  no_attribute : Answer
  flushed : (entries : ℕ) → Answer
  durable : (front : ℕ) → Answer
  compacted : (logs entries : ℕ) → Answer
  figures : (logs bytes live cached indexed lasting next_log front leases failures : ℕ) → Answer
  sealed : (log : ℕ) → Answer
  nothing_open : Answer
  closed : (front : ℕ) → Answer

abbrev pub answer : Done → Answer
answer (d.Welcome version largest in_flight page_ids) = welcome version largest in_flight page_ids
answer (d.Accepted number digest) = accepted number digest
answer d.Held = held
answer (d.Entry ledger entry_id content) = entry ledger entry_id content.now
answer d.NotHeld = not_held
answer (d.Last entry_id) = last entry_id
answer d.Yes = says_yes
answer d.No = says_no
answer (d.Page ids) = page ids.now
answer d.FencedNow = fenced_now
answer d.FencedBefore = fenced_before
answer (d.Dropped entries) = dropped entries
answer d.Stored = stored
answer (d.Attribute value) = attribute value.now
answer d.NoAttribute = no_attribute
answer (d.Flushed entries) = flushed entries
answer (d.Durable front) = durable front
answer (d.Compacted logs entries) = compacted logs entries
answer (d.Figures logs bytes live cached indexed lasting next_log front leases failures) = figures logs bytes live cached indexed lasting next_log front leases failures
answer (d.Sealed log) = sealed log
answer d.NothingOpen = nothing_open
answer (d.Closed front) = closed front

-- status, numbers and bytes of what was done
abbrev pub answer_parts : Answer → Parts
answer_parts (welcome version largest in_flight page_ids) = parts 32 (version ∷ largest ∷ in_flight ∷ page_ids ∷ []) []
answer_parts (accepted number digest) = parts 33 (number ∷ []) digest
answer_parts held = parts 34 [] []
answer_parts (entry ledger entry_id content) = parts 35 (ledger ∷ entry_id ∷ []) content
answer_parts not_held = parts 36 [] []
answer_parts (last entry_id) = parts 37 (entry_id ∷ []) []
answer_parts says_yes = parts 38 [] []
answer_parts says_no = parts 39 [] []
answer_parts (page ids) = parts 40 [] ids
answer_parts fenced_now = parts 41 [] []
answer_parts fenced_before = parts 42 [] []
answer_parts (dropped entries) = parts 43 (entries ∷ []) []
answer_parts stored = parts 44 [] []
answer_parts (attribute value) = parts 45 [] value
answer_parts no_attribute = parts 46 [] []
answer_parts (flushed entries) = parts 47 (entries ∷ []) []
answer_parts (durable front) = parts 48 (front ∷ []) []
answer_parts (compacted logs entries) = parts 49 (logs ∷ entries ∷ []) []
answer_parts (figures logs bytes live cached indexed lasting next_log front leases failures) = parts 50 (logs ∷ bytes ∷ live ∷ cached ∷ indexed ∷ lasting ∷ next_log ∷ front ∷ leases ∷ failures ∷ []) []
answer_parts (sealed log) = parts 51 (log ∷ []) []
answer_parts nothing_open = parts 52 [] []
answer_parts (closed front) = parts 53 (front ∷ []) []

-- of a refusal
abbrev pub refusal_parts : Refusal → Parts
refusal_parts (f.Backwards seen front) = parts 64 (seen ∷ front ∷ []) []
refusal_parts f.Negative = parts 65 [] []
refusal_parts (f.TooLong size) = parts 66 (size ∷ []) []
refusal_parts f.Deleted = parts 67 [] []
refusal_parts f.Fenced = parts 68 [] []
refusal_parts (f.Full used limit) = parts 69 (used ∷ limit ∷ []) []
refusal_parts f.Memory = parts 70 [] []
refusal_parts f.NoSeat = parts 71 [] []
refusal_parts f.TooMany = parts 72 [] []
refusal_parts f.AlreadyDeleted = parts 73 [] []
refusal_parts (f.Missing front) = parts 74 (front ∷ []) []
refusal_parts f.Differs = parts 75 [] []
refusal_parts f.NotThere = parts 76 [] []
refusal_parts f.Disk = parts 77 [] []
refusal_parts f.Odd = parts 78 [] []
refusal_parts f.LogsFull = parts 79 [] []
refusal_parts f.NoMoreIds = parts 80 [] []
refusal_parts f.Settings = parts 81 [] []
refusal_parts (f.BadLog log) = parts 82 (log ∷ []) []
refusal_parts (f.LogTooLong log) = parts 83 (log ∷ []) []
refusal_parts f.InUse = parts 84 [] []
refusal_parts f.Busy = parts 85 [] []
refusal_parts f.OutOfRange = parts 86 [] []
refusal_parts f.NoThread = parts 87 [] []
refusal_parts f.NotOffered = parts 88 [] []

-- of the end of a session
abbrev pub ended_parts : Ended → Parts
ended_parts e.NoHello = parts 96 [] []
ended_parts (e.Version lowest highest) = parts 97 (lowest ∷ highest ∷ []) []
ended_parts e.SecondHello = parts 98 [] []
ended_parts (e.Cut size read) = parts 99 (size ∷ read ∷ []) []
ended_parts (e.Short size) = parts 100 (size ∷ []) []
ended_parts (e.Oversized size largest) = parts 101 (size ∷ largest ∷ []) []
ended_parts (e.UnknownCall call) = parts 102 (call ∷ []) []
ended_parts (e.BadFields call size) = parts 103 (call ∷ size ∷ []) []
ended_parts (e.NotRising next previous) = parts 104 (next ∷ previous ∷ []) []
ended_parts e.InputFailed = parts 105 [] []
ended_parts e.NoMemory = parts 106 [] []

-- a reply
pub data Told : Type 0 where
  done : (answer : Answer) → Told
  refused : (refusal : Refusal) → Told
  ended : (why : Ended) → Told

abbrev pub told : Reply → Told
told (r.Done d) = done (answer d)
told (r.Refused refusal) = refused refusal
told (r.Ended why) = ended why

abbrev pub told_parts : Told → Parts
told_parts (done answer) = answer_parts answer
told_parts (refused refusal) = refusal_parts refusal
told_parts (ended why) = ended_parts why

-- its bytes after the id
unfoldable pub told_bytes : Told → List ℕ
told_bytes t = body_of (told_parts t)

-- every field fits its bytes
unfoldable pub Fits : Told → Type 0
Fits t = FitsLayout reply_layout (told_parts t)

-- what was done, a refusal, and the end of a session, by a status and its fields
unfoldable pub answer_at : ℕ → List ℕ → Answer
answer_at kind body =
    if kind == 32 then welcome (word 0 body) (word 1 body) (word 2 body) (word 3 body)
    else if kind == 33 then accepted (word 0 body) (drop 8 body)
    else if kind == 34 then held
    else if kind == 35 then entry (word 0 body) (word 1 body) (drop 16 body)
    else if kind == 36 then not_held
    else if kind == 37 then last (word 0 body)
    else if kind == 38 then says_yes
    else if kind == 39 then says_no
    else if kind == 40 then page body
    else if kind == 41 then fenced_now
    else if kind == 42 then fenced_before
    else if kind == 43 then dropped (word 0 body)
    else if kind == 44 then stored
    else if kind == 45 then attribute body
    else if kind == 46 then no_attribute
    else if kind == 47 then flushed (word 0 body)
    else if kind == 48 then durable (word 0 body)
    else if kind == 49 then compacted (word 0 body) (word 1 body)
    else if kind == 50 then figures (word 0 body) (word 1 body) (word 2 body) (word 3 body) (word 4 body) (word 5 body) (word 6 body) (word 7 body) (word 8 body) (word 9 body)
    else if kind == 51 then sealed (word 0 body)
    else if kind == 52 then nothing_open
    else closed (word 0 body)

unfoldable pub refusal_at : ℕ → List ℕ → Refusal
refusal_at kind body =
    if kind == 64 then f.Backwards (word 0 body) (word 1 body)
    else if kind == 65 then f.Negative
    else if kind == 66 then f.TooLong (word 0 body)
    else if kind == 67 then f.Deleted
    else if kind == 68 then f.Fenced
    else if kind == 69 then f.Full (word 0 body) (word 1 body)
    else if kind == 70 then f.Memory
    else if kind == 71 then f.NoSeat
    else if kind == 72 then f.TooMany
    else if kind == 73 then f.AlreadyDeleted
    else if kind == 74 then f.Missing (word 0 body)
    else if kind == 75 then f.Differs
    else if kind == 76 then f.NotThere
    else if kind == 77 then f.Disk
    else if kind == 78 then f.Odd
    else if kind == 79 then f.LogsFull
    else if kind == 80 then f.NoMoreIds
    else if kind == 81 then f.Settings
    else if kind == 82 then f.BadLog (word 0 body)
    else if kind == 83 then f.LogTooLong (word 0 body)
    else if kind == 84 then f.InUse
    else if kind == 85 then f.Busy
    else if kind == 86 then f.OutOfRange
    else if kind == 87 then f.NoThread
    else f.NotOffered

unfoldable pub ended_at : ℕ → List ℕ → Ended
ended_at kind body =
    if kind == 96 then e.NoHello
    else if kind == 97 then e.Version (word 0 body) (word 1 body)
    else if kind == 98 then e.SecondHello
    else if kind == 99 then e.Cut (word 0 body) (word 1 body)
    else if kind == 100 then e.Short (word 0 body)
    else if kind == 101 then e.Oversized (word 0 body) (word 1 body)
    else if kind == 102 then e.UnknownCall (word 0 body)
    else if kind == 103 then e.BadFields (word 0 body) (word 1 body)
    else if kind == 104 then e.NotRising (word 0 body) (word 1 body)
    else if kind == 105 then e.InputFailed
    else e.NoMemory

unfoldable pub told_at : ℕ → List ℕ → Told
told_at kind body =
    if nat_lt kind 64 then done (answer_at kind body)
    else if nat_lt kind 96 then refused (refusal_at kind body)
    else ended (ended_at kind body)

-- a status of a reply
abbrev pub is_status : ℕ → Bool
is_status kind =
    (nat_le 32 kind && nat_le kind 53)
    || ((nat_le 64 kind && nat_le kind 88) || (nat_le 96 kind && nat_le kind 106))

-- the reply that bytes are, or why they are none
unfoldable pub replied : List ℕ → Result Told Fault
replied [] = Err NoKind
replied (kind ∷ body) =
    if is_status kind then (if fits (reply_layout kind) (length body) then Ok (told_at kind body) else Err (BadLength kind (length body)))
    else Err (UnknownKind kind)
