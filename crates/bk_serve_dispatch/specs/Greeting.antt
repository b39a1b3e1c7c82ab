-- The hello of a session.
use Rattle.std.specs.Prelude.{◌≡◌, ℕ, ◌≤◌, List, ◌++◌, Option, true}
use Rattle.std.specs.Int.{w64, to_be_bytes}
use Rattle.std.specs.Io.KnownBytes.{Appends}
use Rattle.bk_serve_core.specs.Fields.{frame_of}
use Rattle.bk_serve_core.specs.Reading.{ReadsFrame}
use Rattle.bk_serve_core.specs.Requests.{hello, ask_bytes}
use Rattle.bk_serve_core.specs.Replies.{Told, told_bytes}

-- the eight bytes `BKSERVE` and a line feed, as a number
abbrev pub magic_number : ℕ
magic_number = 4777003386955777290

-- the frame is a hello with this id, whose client speaks version 1
pub record IsGreeting (frame : List ℕ) (id : ℕ) : Type 0 where
  pub lowest : ℕ
  pub highest : ℕ
  pub bytes : frame ≡ to_be_bytes w64 id ++ ask_bytes (hello magic_number lowest highest)
  pub from : lowest ≤ 1
  pub to : 1 ≤ highest

-- a hello is read, and answered by one frame with its id
pub record Greets (reply : Told) (id : ℕ) (input input_after output output_after : Option (List ℕ)) : Type 0 where
  pub frame : List ℕ
  pub reads : ReadsFrame true input input_after frame
  pub greets : IsGreeting frame id
  pub written : Appends output output_after (frame_of id (told_bytes reply))
