-- Sessions. Read `Exchange`, `Exchanges` and `Serves` first.
use Rattle.std.specs.Prelude.{◌≡◌, ℕ, Bool, true, false, ◌&&◌, List, [], ◌∷◌, ◌++◌, drop, Option, Some, None, IsTrue}
use Rattle.std.specs.Io.KnownBytes.{Appends, Keeps, IsAtEnd}
use Rattle.bk_serve_core.specs.declared.ended.Ended.{Ended}
use Rattle.bk_serve_core.specs.declared.ended.Ended.TheVariants as e
use Rattle.bk_serve_core.specs.Fields.{frame_of}
use Rattle.bk_serve_core.specs.Reading.{ReadsFrame}
use Rattle.bk_serve_core.specs.Requests.{Ask, close, flush}
use Rattle.bk_serve_core.specs.Replies.{Told, done, closed, flushed, told_bytes}
use Rattle.bk_serve_dispatch.specs.declared.ending.End.{End}
use Rattle.bk_serve_dispatch.specs.declared.ending.End.TheVariants as end
use Rattle.bk_serve_dispatch.specs.declared.answering.Turn.{Turn}
use Rattle.bk_serve_dispatch.specs.declared.answering.Turn.TheVariants as turn
use Rattle.bk_serve_dispatch.specs.declared.runs.Next.{Next}
use Rattle.bk_serve_dispatch.specs.declared.runs.Next.TheVariants as next
use Rattle.bk_serve_dispatch.specs.Frames.{Asks, Faults}
use Rattle.bk_serve_dispatch.specs.Runs.{is_read, is_add, ReadsOn}

-- A reply that is pending: the id of its request, and its frame. None: it could not be encoded.
pub record Pending : Type 0 where
  pub id : ℕ
  pub frame : Option (List ℕ)

-- A point of a session: the id of the last request, the state of the service, the input that is
-- left, the output, and the replies that are pending, in the order of their requests.
pub record Point (S : Type 0) : Type 0 where
  pub last : ℕ
  pub state : S
  pub input : Option (List ℕ)
  pub output : Option (List ℕ)
  pub pending : List Pending

abbrev pub with_pending : {S : Type 0} → ℕ → S → Option (List ℕ) → Option (List ℕ) → List Pending → Point S
with_pending last state input output pending = record { last = last; state = state; input = input; output = output; pending = pending }

-- a point at which no reply is pending
abbrev pub point : {S : Type 0} → ℕ → S → Option (List ℕ) → Option (List ℕ) → Point S
point last state input output = with_pending last state input output []

-- One request is read and carried out.
pub record CarriesOut {S : Type 0} (answers : S → Ask → Told → S → Type 0) (last : ℕ) (s : S) (input : Option (List ℕ)) (request : Ask) (id : ℕ) (reply : Told) (t : S) (input_after : Option (List ℕ)) : Type 0 where
  pub frame : List ℕ
  pub reads : ReadsFrame true input input_after frame
  pub asks : Asks last frame id request
  pub carried_out : answers s request reply t

-- One request is read, carried out, and answered by one frame with its id. If replies are pending,
-- it is an add.
pub record Exchange {S : Type 0} (answers : S → Ask → Told → S → Type 0) (before : Point S) (request : Ask) (after : Point S) : Type 0 where
  pub reply : Told
  pub carries_out : CarriesOut answers before.last before.state before.input request after.last reply after.state after.input
  pub written : Appends before.output after.output (frame_of after.last (told_bytes reply))
  pub pending : after.pending ≡ before.pending
  pub overtakes : is_add request ≡ false → before.pending ≡ []

-- The frame, if there is one, is that of the reply.
abbrev pub IsReply : ℕ → Told → Option (List ℕ) → Type 0
IsReply id reply (Some frame) = frame ≡ frame_of id (told_bytes reply)
IsReply id reply None = Unit {0}

abbrev pub is_close : Ask → Bool
is_close close = true
is_close _ = false

-- Steps of the service itself lead from one state to another.
pub data Rests {S : Type 0} (works : S → S → Type 0) (start : S) : S → Type 0 where
  idle : Rests works start start
  step : {middle after : S} → Rests works start middle → works middle after → Rests works start after

-- Exchanges lead from one point to another, and no request of them is a close. If requests are
-- begun ahead, the reply to a read may be pending, and is written later: before those to later
-- reads. When none is pending, the service performs steps of its own. The writer writes out what it
-- has kept back.
pub data Exchanges {S : Type 0} (is_ahead : Bool) (answers : S → Ask → Told → S → Type 0) (works : S → S → Type 0) (start : Point S) : Point S → Type 0 where
  none : Exchanges is_ahead answers works start start
  more : {middle after : Point S} {request : Ask} → Exchanges is_ahead answers works start middle → Exchange answers middle request after
      → is_close request ≡ false → Exchanges is_ahead answers works start after
  defers : {last id : ℕ} {state after : S} {input input_after output : Option (List ℕ)} {pending : List Pending} {request : Ask} {reply : Told} (frame : Option (List ℕ))
      → Exchanges is_ahead answers works start (with_pending last state input output pending) → is_ahead ≡ true → is_read request ≡ true
      → CarriesOut answers last state input request id reply after input_after → IsReply id reply frame
      → Exchanges is_ahead answers works start (with_pending id after input_after output (pending ++ record { id = id; frame = frame } ∷ []))
  writes_first : {last id : ℕ} {state : S} {input output output_after : Option (List ℕ)} {frame : List ℕ} {pending : List Pending}
      → Exchanges is_ahead answers works start (with_pending last state input output (record { id = id; frame = Some frame } ∷ pending))
      → Appends output output_after frame → Exchanges is_ahead answers works start (with_pending last state input output_after pending)
  rests : {last : ℕ} {state after : S} {input output : Option (List ℕ)} → Exchanges is_ahead answers works start (point last state input output)
      → Rests works state after → Exchanges is_ahead answers works start (point last after input output)
  writes_out : {last : ℕ} {state : S} {input output kept : Option (List ℕ)} {pending : List Pending} → Exchanges is_ahead answers works start (with_pending last state input output pending)
      → Keeps output kept → Exchanges is_ahead answers works start (with_pending last state input kept pending)

-- A request is carried out, and answered by one frame with its id.
abbrev pub IsAnswered : {S : Type 0} → (S → Ask → Told → S → Type 0) → S → Ask → ℕ → S → Option (List ℕ) → Option (List ℕ) → Type 0
IsAnswered answers s request id t before after =
    (reply : Told) × answers s request reply t × Appends before after (frame_of id (told_bytes reply))

-- A request was carried out, and its reply is not written whole: the first that is pending, or that
-- to a request after it.
pub data Unanswered {S : Type 0} (answers : S → Ask → Told → S → Type 0) (before : Point S) (id : ℕ) (after : S) (input : Option (List ℕ)) : Type 0 where
  pending : {one : Pending} {rest : List Pending} → before.pending ≡ one ∷ rest → one.id ≡ id → after ≡ before.state → ReadsOn before.input input
      → Unanswered answers before id after input
  carried : {request : Ask} {reply : Told} → CarriesOut answers before.last before.state before.input request id reply after input
      → Unanswered answers before id after input

-- Why a session ends at a point without a reply. A frame that could not be read has no id here. A
-- request whose reply was not encoded was carried out.
pub data Breaks {S : Type 0} (answers : S → Ask → Told → S → Type 0) (before : Point S) (after : S) (input : Option (List ℕ)) : ℕ → Ended → Type 0 where
  unread : {why : Ended} → before.pending ≡ [] → after ≡ before.state → Breaks answers before after input 0 why
  refused : {frame : List ℕ} {id : ℕ} {why : Ended} → before.pending ≡ [] → ReadsFrame true before.input input frame → Faults before.last frame id why
      → after ≡ before.state → Breaks answers before after input id why
  unsaid : {id : ℕ} → Unanswered answers before id after input → Breaks answers before after input id e.NoMemory

-- The reply has the bytes of `closed`.
abbrev pub SaysClosed : Told → Type 0
SaysClosed reply = (front : ℕ) × (told_bytes reply ≡ told_bytes (done (closed front)))

-- A session ends at a point. After a close it knows whether the reply was `closed`. Replies are
-- pending then only if the session ends by one that is not written whole, or if the writer cannot
-- write out what it has kept back; in that case no further request is read.
abbrev pub EndsAt : {S : Type 0} → (S → Ask → Told → S → Type 0) → Point S → S → Option (List ℕ) → Option (List ℕ) → End → Type 0
EndsAt answers before after input output (end.Closed is_flushed) =
    (id : ℕ) × (last : Exchange answers before close (point id after input output)) × (IsTrue is_flushed → SaysClosed last.reply)
EndsAt answers before after input output end.Over = (after ≡ before.state) × (output ≡ before.output) × IsAtEnd input × (before.pending ≡ [])
EndsAt answers before after input output (end.Fault id why) = (output ≡ before.output) × Breaks answers before after input id why
EndsAt answers before after input output (end.OutputFailed id) = Unanswered answers before id after input
EndsAt answers before after input output end.NotWrittenOut = (after ≡ before.state) × (input ≡ before.input)

-- A request is carried out. Its reply is written, or the session ends.
abbrev pub Answers : {S : Type 0} → (S → Ask → Told → S → Type 0) → S → Ask → ℕ → S → Option (List ℕ) → Option (List ℕ) → Turn → Type 0
Answers answers s request id t before after (turn.Answered next) =
    (next ≡ id) × (is_close request ≡ false) × IsAnswered answers s request id t before after
Answers answers s request id t before after (turn.Ended (end.Closed is_flushed)) =
    (request ≡ close) × (is : IsAnswered answers s request id t before after) × (IsTrue is_flushed → SaysClosed is.0)
Answers answers s request id t before after (turn.Ended end.Over) = ⊥
Answers answers s request id t before after (turn.Ended (end.Fault with_id why)) =
    (with_id ≡ id) × (why ≡ e.NoMemory) × (after ≡ before) × ((reply : Told) × answers s request reply t)
Answers answers s request id t before after (turn.Ended (end.OutputFailed with_id)) = (with_id ≡ id) × ((reply : Told) × answers s request reply t)
Answers answers s request id t before after (turn.Ended end.NotWrittenOut) = ⊥

-- What a turn does whose request was answered by this frame: a close ends the session, and nothing
-- else does.
abbrev pub IsTurnAfter : ℕ → Ask → List ℕ → Turn → Type 0
IsTurnAfter id request frame (turn.Answered next) = (next ≡ id) × (is_close request ≡ false)
IsTurnAfter id request frame (turn.Ended (end.Closed is_flushed)) =
    (request ≡ close) × (IsTrue is_flushed → (front : ℕ) × (drop 12 frame ≡ told_bytes (done (closed front))))
IsTurnAfter id request frame _ = ⊥

-- A session: exchanges, and then its end.
abbrev pub Serves : {S : Type 0} → Bool → (S → Ask → Told → S → Type 0) → (S → S → Type 0) → Point S → S → Option (List ℕ) → Option (List ℕ) → End → Type 0
Serves {S} is_ahead answers works start after input output how =
    (middle : Point S) × Exchanges is_ahead answers works start middle × EndsAt answers middle after input output how

-- One turn from a point: exchanges, or exchanges and the end.
abbrev pub Turns : {S : Type 0} → Bool → (S → Ask → Told → S → Type 0) → (S → S → Type 0) → Point S → S → Option (List ℕ) → Option (List ℕ) → Turn → Type 0
Turns is_ahead answers works before after input output (turn.Answered id) = Exchanges is_ahead answers works before (point id after input output)
Turns is_ahead answers works before after input output (turn.Ended how) = Serves is_ahead answers works before after input output how

-- What a frame is for that was read and not begun: an exchange, or the end.
abbrev pub TurnsBy : {S : Type 0} → (S → Ask → Told → S → Type 0) → Point S → S → Option (List ℕ) → Option (List ℕ) → Turn → Type 0
TurnsBy answers before after input output (turn.Answered id) =
    (request : Ask) × (is_close request ≡ false) × Exchange answers before request (point id after input output)
TurnsBy answers before after input output (turn.Ended how) = EndsAt answers before after input output how

-- Nothing is left to be read, or a frame cannot be read.
abbrev pub EndsInput : Option (List ℕ) → End → Type 0
EndsInput input end.Over = IsAtEnd input
EndsInput input (end.Fault id why) = id ≡ 0
EndsInput input _ = ⊥

-- What was read after requests, and what became of it: nothing, or this frame, or the session ends.
-- If it is lost, a request was carried out and not answered, or nothing more was read.
abbrev pub ReadsNext : {S : Type 0} → (S → Ask → Told → S → Type 0) → ℕ → S → Option (List ℕ) → Option (List ℕ) → List ℕ → Next → S → Option (List ℕ) → Option (List ℕ) → Type 0
ReadsNext answers last s input output frame next.Pause t input_after output_after = (t ≡ s) × (input_after ≡ input) × (output_after ≡ output)
ReadsNext answers last s input output frame next.Frame t input_after output_after = (t ≡ s) × ReadsFrame true input input_after frame × (output_after ≡ output)
ReadsNext answers last s input output frame (next.Ended how) t input_after output_after = (t ≡ s) × EndsInput input_after how × (output_after ≡ output)
ReadsNext answers last s input output frame (next.Lost end.NotWrittenOut) t input_after output_after = (t ≡ s) × (input_after ≡ input)
ReadsNext answers last s input output frame (next.Lost (end.Fault id why)) t input_after output_after =
    (why ≡ e.NoMemory) × (output_after ≡ output) × (request : Ask) × (reply : Told) × CarriesOut answers last s input request id reply t input_after
ReadsNext answers last s input output frame (next.Lost (end.OutputFailed id)) t input_after output_after =
    (request : Ask) × (reply : Told) × CarriesOut answers last s input request id reply t input_after
ReadsNext answers last s input output frame (next.Lost _) t input_after output_after = ⊥

abbrev pub is_lost : Next → Bool
is_lost (next.Lost how) = true
is_lost _ = false

-- A flush is carried out. If this is true, its reply has the bytes of `flushed`.
pub record Flushes {S : Type 0} (answers : S → Ask → Told → S → Type 0) (s : S) (is : Bool) (t : S) : Type 0 where
  pub reply : Told
  pub carried_out : answers s flush reply t
  pub says : IsTrue is → (entries : ℕ) × (told_bytes reply ≡ told_bytes (done (flushed entries)))

-- After its end a session flushes, unless it ended by a close, and by a fault it writes the frame
-- that ends it, unless that fails. It ended in order if the flush, that of the close too, was carried
-- out and the writer has written everything out.
abbrev pub Finishes : {S : Type 0} → (S → Ask → Told → S → Type 0) → End → Bool → S → S → Option (List ℕ) → Option (List ℕ) → Bool → Type 0
Finishes answers (end.Closed is_flushed) is_written s t before after is = (t ≡ s) × (after ≡ before) × (is ≡ (is_flushed && is_written))
Finishes answers end.Over is_written s t before after is = (is_flushed : Bool) × Flushes answers s is_flushed t × (after ≡ before) × (is ≡ (is_flushed && is_written))
Finishes answers (end.Fault id why) is_written s t before after is = Flushes answers s false t × (is ≡ false)
Finishes answers (end.OutputFailed id) is_written s t before after is = Flushes answers s false t × (after ≡ before) × (is ≡ false)
Finishes answers end.NotWrittenOut is_written s t before after is = Flushes answers s false t × (after ≡ before) × (is ≡ false)
