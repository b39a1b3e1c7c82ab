-- Which frames are requests of a session, and why the others end it. Read `Asks` and `Faults`
-- first.
use Rattle.std.specs.Prelude.{◌≡◌, ℕ, ◌≤◌, ◌<◌, List, ◌++◌, Bool, true, false, Ok, Err}
use Rattle.std.specs.Int.{w64, to_be_bytes}
use Rattle.bk_serve_core.specs.declared.fault.Fault.{Fault}
use Rattle.bk_serve_core.specs.declared.fault.Fault.TheVariants.{NoKind, UnknownKind, BadLength}
use Rattle.bk_serve_core.specs.declared.ended.Ended.{Ended}
use Rattle.bk_serve_core.specs.declared.ended.Ended.TheVariants as e
use Rattle.bk_serve_core.specs.Requests.{Ask, hello, ask_bytes, asked}

abbrev pub is_hello : Ask → Bool
is_hello (hello magic lowest highest) = true
is_hello _ = false

-- the frame is this id and the bytes of this request, which comes after the request with the id
-- `last`
pub record Asks (last : ℕ) (frame : List ℕ) (id : ℕ) (request : Ask) : Type 0 where
  pub bytes : frame ≡ to_be_bytes w64 id ++ ask_bytes request
  pub rises : last < id
  pub later : is_hello request ≡ false

-- the end of a session by bytes that are no request
abbrev pub EndsByDecoding : Fault → Ended → Type 0
EndsByDecoding NoKind why = why ≡ e.Short 8
EndsByDecoding (UnknownKind call) why = why ≡ e.UnknownCall call
EndsByDecoding (BadLength call length) why = why ≡ e.BadFields call length

-- why a frame with this id and these bytes after it is no request
pub data IsFault (last id : ℕ) (body : List ℕ) : Ended → Type 0 where
  falls : id ≤ last → IsFault last id body (e.NotRising id last)
  is_none : {fault : Fault} {why : Ended} → last < id → asked body ≡ Err fault → EndsByDecoding fault why → IsFault last id body why
  greets : {request : Ask} → last < id → asked body ≡ Ok request → is_hello request ≡ true → IsFault last id body e.SecondHello

-- the frame has this id, and ends the session by this fault
abbrev pub Faults : ℕ → List ℕ → ℕ → Ended → Type 0
Faults last frame id why = (body : List ℕ) × (frame ≡ to_be_bytes w64 id ++ body) × IsFault last id body why
