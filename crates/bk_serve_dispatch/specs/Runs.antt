-- Which requests are carried out before the replies to earlier ones are written.
use Rattle.std.specs.Prelude.{ℕ, Bool, true, false, List, Option}
use Rattle.bk_serve_core.specs.Reading.{ReadsFrame}
use Rattle.bk_serve_core.specs.Requests.{Ask, add, add_recovery, read, read_last, read_back}

-- the request reads an entry: its reply may be pending while others are carried out
abbrev pub is_read : Ask → Bool
is_read (read ledger entry_id) = true
is_read (read_last ledger) = true
is_read (read_back number ledger entry_id digest) = true
is_read _ = false

-- the request adds an entry: its reply may overtake those that are pending
abbrev pub is_add : Ask → Bool
is_add (add ledger entry_id content) = true
is_add (add_recovery ledger entry_id content) = true
is_add _ = false

-- What else was read of the input when the session ended: nothing, or one frame, or there was none to
-- be read.
pub data ReadsOn (input : Option (List ℕ)) : Option (List ℕ) → Type 0 where
  nothing : ReadsOn input input
  frame : {input_after : Option (List ℕ)} {bytes : List ℕ} → ReadsFrame true input input_after bytes → ReadsOn input input_after
  unread : {input_after : Option (List ℕ)} → ReadsOn input input_after
