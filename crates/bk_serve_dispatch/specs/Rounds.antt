-- A turn of a session whose reads are begun ahead. Read `Goes` and `Stands` first.
use Rattle.std.specs.Prelude.{◌≡◌, ℕ, Bool, true, false, List, [], ◌∷◌, ◌++◌, Option}
use Rattle.std.specs.Io.KnownBytes.{Appends, Keeps}
use Rattle.bk_serve_core.specs.Fields.{frame_of}
use Rattle.bk_serve_core.specs.Reading.{ReadsFrame}
use Rattle.bk_serve_core.specs.Requests.{Ask}
use Rattle.bk_serve_core.specs.Replies.{Told, told_bytes}
use Rattle.bk_serve_dispatch.specs.declared.answering.Turn.{Turn}
use Rattle.bk_serve_dispatch.specs.declared.begun.Begun.{Begun}
use Rattle.bk_serve_dispatch.specs.declared.runs.Gathered.{Gathered}
use Rattle.bk_serve_dispatch.specs.declared.session.Left.{Left}
use Rattle.bk_serve_dispatch.specs.declared.session.Rounds.{Rounds}
use Rattle.bk_serve_dispatch.specs.declared.session.Rounds.TheVariants as rounds
use Rattle.bk_serve_dispatch.specs.Frames.{Asks}
use Rattle.bk_serve_dispatch.specs.Jobs.{CarriedRun, IsFrame, Owes}
use Rattle.bk_serve_dispatch.specs.Runs.{is_add, is_read}
use Rattle.bk_serve_dispatch.specs.Session.{Point, point, CarriesOut, Exchanges, ReadsNext, Serves, Turns}

module _ {S J : Type 0} (is_ahead : Bool) (answers : S → Ask → Told → S → Type 0) (works : S → S → Type 0) (gives : J → Told → Type 0) (start : Point S) where
  -- From the start, requests were read and carried out up to an id, a state, an input and an output.
  -- The replies to the reads of this run are pending, and their jobs may be left.
  pub data Goes : List (Begun J) → ℕ → S → Option (List ℕ) → Option (List ℕ) → Type 0 where
    stands : {last : ℕ} {s : S} {input output : Option (List ℕ)} → Exchanges is_ahead answers works start (point last s input output) → Goes [] last s input output
    begins : {last : ℕ} {s t : S} {input input_after output : Option (List ℕ)} {run : List (Begun J)} (one : Begun J) {frame : List ℕ} {request : Ask}
        → Goes run last s input output → is_ahead ≡ true → ReadsFrame true input input_after frame → Asks last frame one.id request → is_read request ≡ true
        → Owes gives (λ reply. answers s request reply t) one.id one.stage → Goes (run ++ one ∷ []) one.id t input_after output
    adds : {last id : ℕ} {s t : S} {input input_after output output_after : Option (List ℕ)} {run : List (Begun J)} {request : Ask} {reply : Told}
        → Goes run last s input output → is_add request ≡ true → CarriesOut answers last s input request id reply t input_after
        → Appends output output_after (frame_of id (told_bytes reply)) → Goes run id t input_after output_after
    carries : {last : ℕ} {s : S} {input output : Option (List ℕ)} {run after : List (Begun J)} → Goes run last s input output → CarriedRun gives run after
        → Goes after last s input output
    tells : {last : ℕ} {s : S} {input output output_after : Option (List ℕ)} {run : List (Begun J)} {one : Begun J} (bytes : List ℕ)
        → Goes (one ∷ run) last s input output → IsFrame gives one.id one.stage bytes → Appends output output_after bytes → Goes run last s input output_after
    keeps : {last : ℕ} {s : S} {input output output_after : Option (List ℕ)} {run : List (Begun J)} → Goes run last s input output → Keeps output output_after
        → Goes run last s input output_after

  -- The same, and then something was read.
  pub record Stands (run : List (Begun J)) (at : Gathered) (state : S) (input : Option (List ℕ)) (frame : List ℕ) (output : Option (List ℕ)) : Type 0 where
    pub before : S
    pub read : Option (List ℕ)
    pub told : Option (List ℕ)
    pub goes : Goes run at.last before read told
    pub reads : ReadsNext answers at.last before read told frame at.next state input output

  -- The same after further rounds. Or the session ended.
  abbrev pub StandsOrEnds : Rounds J → S → Option (List ℕ) → List ℕ → Option (List ℕ) → Type 0
  StandsOrEnds (rounds.Left left) state input frame output = Stands left.run.items left.at state input frame output
  StandsOrEnds (rounds.Ended how) state input frame output = Serves is_ahead answers works start state input output how

-- Frames were read after those of any start and the reads that were begun before.
abbrev pub GoesOn : {S J : Type 0} → (S → Ask → Told → S → Type 0) → (S → S → Type 0) → (J → Told → Type 0) → List (Begun J) → ℕ → S → Option (List ℕ) → Option (List ℕ)
    → List (Begun J) → Gathered → S → Option (List ℕ) → List ℕ → Option (List ℕ) → Type 0
GoesOn {S} {J} answers works gives run last s input output run_after at t input_after frame output_after =
    (start : Point S) (before : List (Begun J)) → Goes true answers works gives start (before ++ run) last s input output
    → Stands true answers works gives start (before ++ run_after) at t input_after frame output_after

-- The same of the first frames of a turn.
abbrev pub StandsFirst : {S J : Type 0} → Bool → (S → Ask → Told → S → Type 0) → (S → S → Type 0) → (J → Told → Type 0) → ℕ → S → Option (List ℕ) → Option (List ℕ)
    → List (Begun J) → Gathered → S → Option (List ℕ) → List ℕ → Option (List ℕ) → Type 0
StandsFirst is_ahead answers works gives last s input output run at t input_after frame output_after =
    Stands is_ahead answers works gives (point last s input output) run at t input_after frame output_after

-- The same while a run is carried out, after which `at` was read.
abbrev pub StandsOn : {S J : Type 0} → (S → Ask → Told → S → Type 0) → (S → S → Type 0) → (J → Told → Type 0) → Gathered → S → Option (List ℕ) → List ℕ → Option (List ℕ)
    → List (Begun J) → Gathered → S → Option (List ℕ) → List ℕ → Option (List ℕ) → Type 0
StandsOn {S} {J} answers works gives at s input frame output more after t input_after frame_after output_after =
    (is_ahead : Bool) (start : Point S) (run : List (Begun J)) → (is_ahead ≡ false → ⊥) → Stands is_ahead answers works gives start run at s input frame output
    → Stands is_ahead answers works gives start (run ++ more) after t input_after frame_after output_after

-- The same of further rounds.
abbrev pub StandsStill : {S J : Type 0} → (S → Ask → Told → S → Type 0) → (S → S → Type 0) → (J → Told → Type 0) → Left J → S → Option (List ℕ) → List ℕ → Option (List ℕ)
    → Rounds J → S → Option (List ℕ) → List ℕ → Option (List ℕ) → Type 0
StandsStill {S} answers works gives left s input frame output after t input_after frame_after output_after =
    (is_ahead : Bool) (start : Point S) → Stands is_ahead answers works gives start left.run.items left.at s input frame output
    → StandsOrEnds is_ahead answers works gives start after t input_after frame_after output_after

-- After them, the frame that was read last is answered, or nothing is left to be done.
abbrev pub TakesNext : {S J : Type 0} → (S → Ask → Told → S → Type 0) → (S → S → Type 0) → (J → Told → Type 0) → Gathered → S → List ℕ → Option (List ℕ)
    → S → Option (List ℕ) → Turn → Type 0
TakesNext {S} answers works gives at s frame output t output_after what =
    (is_ahead : Bool) (start : Point S) (input : Option (List ℕ)) → Stands is_ahead answers works gives start [] at s input frame output
    → Turns is_ahead answers works start t input output_after what
