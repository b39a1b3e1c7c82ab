-- The accounts as a function of the calls: for each log, the sums over the calls since its last
-- `open`. Read `CountsFromScratch` first, at the end.
use Rattle.std.specs.Prelude.{Option, Some, None, ◌≡◌, ℕ, ◌-◌, ◌<◌, Bool, true, false, not, ◌&&◌, ◌||◌, ◌==◌, List, [], ◌∷◌, ◌++◌, IfSome, if◌then◌else◌, ⊤}
use Rattle.std.specs.FinMap as finmap
use Rattle.std.specs.List.{list_any, count_by}
use Rattle.std.specs.Option.{option_map, option_map_or, option_or}
use Rattle.bk_accounts.specs.Book.{Book, IsNotOpen, IsReady, is_ready, total_in, remaining_in, named_in, after_open, after_ready, after_count, after_count_dead}
use Rattle.bk_accounts.specs.Book.{after_name, after_unname, after_forget, after_drop}
use Rattle.bk_accounts.specs.Rows.{Row, total_of, remaining_of}

-- a call that changes the accounts
pub data AccountCall : Type 0 where
  opens : ℕ → AccountCall
  readies : ℕ → ℕ → AccountCall
  counts : ℕ → ℕ → ℕ → AccountCall
  counts_dead : ℕ → ℕ → AccountCall
  names : ℕ → AccountCall
  unnames : ℕ → AccountCall
  forgets : ℕ → AccountCall
  drops : ℕ → AccountCall

-- effect of a call on a book
abbrev pub after : AccountCall → Book → Book
after (opens log) book = after_open book log
after (readies log ledger) book = after_ready book log ledger
after (counts log ledger size) book = after_count book log ledger size
after (counts_dead log size) book = after_count_dead book log size
after (names log) book = after_name book log
after (unnames log) book = after_unname book log
after (forgets ledger) book = after_forget book ledger
after (drops log) book = after_drop book log

-- requirement of a call, without the bounds of its numbers
abbrev pub IsDue : AccountCall → Book → Type 0
IsDue (opens log) book = IsNotOpen book log
IsDue (counts log ledger size) book = IsReady book log ledger
IsDue (unnames log) book = IfSome (named_in book log) (λ n. 0 < n)
IsDue _ book = ⊤

-- the calls, oldest first, lead from no open log to the book
pub data History : List AccountCall → Book → Type 0 where
  start : History [] finmap.empty
  more : {calls : List AccountCall} {book : Book} (call : AccountCall) → History calls book → IsDue call book → History (calls ++ call ∷ []) (after call book)

-- whether the call opens the log
abbrev pub is_open_of : ℕ → AccountCall → Bool
is_open_of log (opens other) = log == other
is_open_of log _ = false

-- whether the call drops the log
abbrev pub is_drop_of : ℕ → AccountCall → Bool
is_drop_of log (drops other) = log == other
is_drop_of log _ = false

-- whether the call forgets the ledger
abbrev pub is_forget_of : ℕ → AccountCall → Bool
is_forget_of ledger (forgets other) = other == ledger
is_forget_of ledger _ = false

-- whether the call adds a name to the log
abbrev pub is_name_of : ℕ → AccountCall → Bool
is_name_of log (names other) = log == other
is_name_of log _ = false

-- whether the call removes a name of the log
abbrev pub is_unname_of : ℕ → AccountCall → Bool
is_unname_of log (unnames other) = log == other
is_unname_of log _ = false

-- calls since the log was last opened, `None` if it is not open
abbrev pub since_open : ℕ → List AccountCall → Option (List AccountCall)
since_open log [] = None
since_open log (call ∷ later) =
    option_or (since_open log later)
    (if is_open_of log call && not (list_any (is_drop_of log) later) then Some later else None)

-- Counts of the log, each with whether a later call forgets its ledger. The row of a deleted
-- ledger's entry counts as forgotten from the start, so its ledger does not matter.
abbrev pub rows_of : ℕ → List AccountCall → List Row
rows_of log [] = []
rows_of log (counts other ledger size ∷ later) =
    if log == other
    then record { ledger = ledger; size = size; forgotten = list_any (is_forget_of ledger) later } ∷ rows_of log later
    else rows_of log later
rows_of log (counts_dead other size ∷ later) =
    if log == other then record { ledger = 0; size = size; forgotten = true } ∷ rows_of log later else rows_of log later
rows_of log (_ ∷ later) = rows_of log later

-- names added to the log, less those removed
abbrev pub named_of : ℕ → List AccountCall → ℕ
named_of log calls = count_by (is_name_of log) calls - count_by (is_unname_of log) calls

-- whether the calls make room for the ledger's sum that no later call removes
abbrev pub is_readied : ℕ → ℕ → List AccountCall → Bool
is_readied log ledger [] = false
is_readied log ledger (readies other wanted ∷ later) =
    (log == other && (ledger == wanted && not (list_any (is_forget_of ledger) later))) || is_readied log ledger later
is_readied log ledger (_ ∷ later) = is_readied log ledger later

-- for each log the book has the sums over the calls since its last `open`
pub record TellsOf (calls : List AccountCall) (book : Book) : Type 0 where
  pub total : (log : ℕ) → total_in book log ≡ option_map (λ later. total_of (rows_of log later)) (since_open log calls)
  pub remaining : (log : ℕ) → remaining_in book log ≡ option_map (λ later. remaining_of (rows_of log later)) (since_open log calls)
  pub named : (log : ℕ) → named_in book log ≡ option_map (named_of log) (since_open log calls)
  pub ready : (log ledger : ℕ) → is_ready book log ledger ≡ option_map_or (is_readied log ledger) (since_open log calls) false

-- this holds after every list of calls
abbrev pub CountsFromScratch : Type 0
CountsFromScratch = (calls : List AccountCall) (book : Book) → History calls book → TellsOf calls book
