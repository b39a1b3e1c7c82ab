-- What a turn does, from what its parts do.
use Rattle.std.proofs.Common.{◌≡◌, ◌∙◌, ℕ, List, drop, Option, Bool, true, IsTrue, ap, sym, subst, refl}
use Rattle.std.specs.Io.KnownBytes.{Appends, Keeps}
use Rattle.bk_serve_core.specs.Fields.{frame_of}
use Rattle.bk_serve_core.specs.Reading.{ReadsFrame}
use Rattle.bk_serve_core.specs.Requests.{Ask, close}
use Rattle.bk_serve_core.specs.Replies.{Told, done, closed, told_bytes}
use Rattle.bk_serve_dispatch.specs.declared.ending.End.TheVariants as end
use Rattle.bk_serve_dispatch.specs.declared.answering.Turn.{Turn}
use Rattle.bk_serve_dispatch.specs.declared.answering.Turn.TheVariants as turn
use Rattle.bk_serve_dispatch.specs.Frames.{Asks}
use Rattle.bk_serve_dispatch.specs.Session.{Point, point, Exchange, Exchanges, rests, writes_out, Rests, idle, step, Breaks, Unanswered, carried, unsaid, Answers, IsTurnAfter, TurnsBy, SaysClosed, Serves, IsAnswered}

exchange : {S : Type 0} (answers : S → Ask → Told → S → Type 0) (last : ℕ) (state after : S) (input input_after output output_after : Option (List ℕ)) (frame : List ℕ) (id : ℕ) (request : Ask)
    → ReadsFrame true input input_after frame → Asks last frame id request → IsAnswered answers state request id after output output_after
    → Exchange answers (point last state input output) request (point id after input_after output_after)
exchange answers last state after input input_after output output_after frame id request reads asks is = record {
  reply = is.0;
  carries_out = record { frame = frame; reads = reads; asks = asks; carried_out = is.1 };
  written = is.2;
  pending = refl;
  overtakes = λ no_add. refl;
}

-- a request that was read was carried out and not answered, under another name of its id
unanswered : {S : Type 0} (answers : S → Ask → Told → S → Type 0) (last : ℕ) (state after : S) (input input_after output : Option (List ℕ)) (frame : List ℕ) (id with_id : ℕ) (request : Ask) (reply : Told)
    → ReadsFrame true input input_after frame → Asks last frame id request → with_id ≡ id → answers state request reply after
    → Unanswered answers (point last state input output) with_id after input_after
unanswered answers last state after input input_after output frame id with_id request reply reads asks same carried_out =
    subst (λ n. Unanswered answers (point last state input output) n after input_after) (sym same)
    (carried {reply = reply} (record { frame = frame; reads = reads; asks = asks; carried_out = carried_out }))

-- the reply in a frame
reply_in : (id : ℕ) (reply : Told) → drop 12 (frame_of id (told_bytes reply)) ≡ told_bytes reply
reply_in id reply = refl

-- a request that was carried out, and whose reply was written, was answered
pub answered_by : {S : Type 0} (answers : S → Ask → Told → S → Type 0) (s : S) (request : Ask) (id : ℕ) (after : S) (output output_after : Option (List ℕ)) (out : List ℕ) (t : Turn) (reply : Told)
    → answers s request reply after → out ≡ frame_of id (told_bytes reply) → Appends output output_after out → IsTurnAfter id request out t
    → Answers answers s request id after output output_after t
answered_by answers s request id after output output_after out (turn.Answered next) reply carried_out same written a =
    (a.0, a.1, (reply, carried_out, subst (λ x. Appends output output_after x) same written))
answered_by answers s request id after output output_after out (turn.Ended (end.Closed is_flushed)) reply carried_out same written a = (
  a.0,
  (reply, carried_out, subst (λ x. Appends output output_after x) same written),
  λ is. let found = a.1 is in (found.0, subst (λ x. x ≡ told_bytes (done (closed found.0))) (ap (λ x. drop 12 x) same ∙ reply_in id reply) found.1),
)
answered_by answers s request id after output output_after out (turn.Ended end.Over) reply carried_out same written a = absurd a
answered_by answers s request id after output output_after out (turn.Ended (end.Fault with_id why)) reply carried_out same written a = absurd a
answered_by answers s request id after output output_after out (turn.Ended (end.OutputFailed with_id)) reply carried_out same written a = absurd a
answered_by answers s request id after output output_after out (turn.Ended end.NotWrittenOut) reply carried_out same written a = absurd a

-- a close that was read and answered
ends_by_close : {S : Type 0} (answers : S → Ask → Told → S → Type 0) (last : ℕ) (state after : S) (input input_after output output_after : Option (List ℕ)) (frame : List ℕ) (id : ℕ) (request : Ask) (is_flushed : Bool)
    → ReadsFrame true input input_after frame → Asks last frame id request
    → (request ≡ close) × (is : IsAnswered answers state request id after output output_after) × (IsTrue is_flushed → SaysClosed is.0)
    → (it : Exchange answers (point last state input output) close (point id after input_after output_after)) × (IsTrue is_flushed → SaysClosed it.reply)
unfolding exchange
ends_by_close answers last state after input input_after output output_after frame id request is_flushed reads asks a =
    subst (λ q. (it : Exchange answers (point last state input output) q (point id after input_after output_after)) × (IsTrue is_flushed → SaysClosed it.reply)) a.0
    (exchange answers last state after input input_after output output_after frame id request reads asks a.1, a.2)

-- a frame that was read, under another name
pub whole : (before after : Option (List ℕ)) (is : Bool) (frame read : List ℕ) → is ≡ true → frame ≡ read → ReadsFrame is before after read
    → ReadsFrame true before after frame
whole before after is frame read known same reads =
    subst (λ f. ReadsFrame true before after f) (sym same) (subst (λ b. ReadsFrame b before after read) known reads)

-- a request that was read is carried out
pub carried_by : {S : Type 0} (answers : S → Ask → Told → S → Type 0) (last : ℕ) (state after : S) (input input_after output output_after : Option (List ℕ)) (frame : List ℕ) (id : ℕ) (request : Ask) (t : Turn)
    → ReadsFrame true input input_after frame → Asks last frame id request → Answers answers state request id after output output_after t
    → TurnsBy answers (point last state input output) after input_after output_after t
carried_by answers last state after input input_after output output_after frame id request (turn.Answered next) reads asks a = (
  request,
  a.1,
  subst (λ n. Exchange answers (point last state input output) request (point n after input_after output_after)) (sym a.0)
      (exchange answers last state after input input_after output output_after frame id request reads asks a.2),
)
carried_by answers last state after input input_after output output_after frame id request (turn.Ended (end.Closed is_flushed)) reads asks a =
    let closes = ends_by_close answers last state after input input_after output output_after frame id request is_flushed reads asks a in
    (id, closes.0, closes.1)
carried_by answers last state after input input_after output output_after frame id request (turn.Ended end.Over) reads asks a = absurd a
carried_by answers last state after input input_after output output_after frame id request (turn.Ended (end.Fault with_id why)) reads asks a = (
  a.2,
  subst (λ w. Breaks answers (point last state input output) after input_after with_id w) (sym a.1)
      (unsaid (unanswered answers last state after input input_after output frame id with_id request a.3.0 reads asks a.0 a.3.1)),
)
carried_by answers last state after input input_after output output_after frame id request (turn.Ended (end.OutputFailed with_id)) reads asks a =
    unanswered answers last state after input input_after output frame id with_id request a.1.0 reads asks a.0 a.1.1
carried_by answers last state after input input_after output output_after frame id request (turn.Ended end.NotWrittenOut) reads asks a = absurd a

-- steps of the service, and further ones
pub rested : {S : Type 0} (works : S → S → Type 0) (a b c : S) → Rests works a b → Rests works b c → Rests works a c
rested works a b c first idle = first
rested works a b c first (step {middle = m} next turn) = step (rested works a b m first next) turn

pub one_step : {S : Type 0} (works : S → S → Type 0) (a b : S) → works a b → Rests works a b
one_step works a b turn = step idle turn

-- a pause, after exchanges
pub paused : {S : Type 0} (is_ahead : Bool) (answers : S → Ask → Told → S → Type 0) (works : S → S → Type 0) (start : Point S) (last : ℕ) (state after : S) (input output output_after : Option (List ℕ))
    → Exchanges is_ahead answers works start (point last state input output) → Rests works state after → Keeps output output_after
    → Exchanges is_ahead answers works start (point last after input output_after)
paused is_ahead answers works start last state after input output output_after so_far rest keeps = writes_out (rests so_far rest) keeps

-- a pause in which the writer failed, after exchanges
pub cut_off : {S : Type 0} (is_ahead : Bool) (answers : S → Ask → Told → S → Type 0) (works : S → S → Type 0) (start : Point S) (last : ℕ) (state after : S) (input output output_after : Option (List ℕ))
    → Exchanges is_ahead answers works start (point last state input output) → Rests works state after
    → Serves is_ahead answers works start after input output_after end.NotWrittenOut
cut_off is_ahead answers works start last state after input output output_after so_far rest =
    (point last after input output, rests so_far rest, (refl, refl))
