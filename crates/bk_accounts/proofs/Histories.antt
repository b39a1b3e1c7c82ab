-- Sums over the calls after one more call.
use Rattle.std.proofs.Common.{◌≡◌, ℕ, Bool, true, false, not, ◌&&◌, ◌||◌, ◌==◌, List, [], ◌∷◌, ◌++◌, map, Some, None, Option, refl, ap, ◌∙◌, if◌then◌else◌}
use Rattle.std.specs.List.{list_any}
use Rattle.std.specs.Option.{option_map, option_or}
use Rattle.std.proofs.Math.Bool.{or-false, or-true}
use Rattle.bk_accounts.specs.Rows.{Row}
use Rattle.bk_accounts.specs.History.{AccountCall, opens, readies, counts, counts_dead, names, unnames, forgets, drops, is_open_of, is_drop_of, is_forget_of}
use Rattle.bk_accounts.specs.History.{since_open, rows_of, is_readied}

-- whether any call passes a test, with one more call
any_more : (test : AccountCall → Bool) (calls : List AccountCall) (call : AccountCall) → list_any test (calls ++ call ∷ []) ≡ (list_any test calls || test call)
any_more test [] call = last (test call)
  where
    last : (b : Bool) → (b || false) ≡ (false || b)
    last true = refl
    last false = refl
any_more test (first ∷ calls) call = ap (λ b. test first || b) (any_more test calls call) ∙ regroup (test first) (list_any test calls) (test call)
  where
    regroup : (a b c : Bool) → (a || (b || c)) ≡ ((a || b) || c)
    regroup true b c = refl
    regroup false b c = refl

-- after a call that opens the log: no call since
pub since-opened : (log : ℕ) (calls : List AccountCall) (call : AccountCall) → is_open_of log call ≡ true → since_open log (calls ++ call ∷ []) ≡ Some []
since-opened log [] call opening = ap (λ b. if b && true then Some [] else None) opening
since-opened log (first ∷ calls) call opening =
    ap (λ o. option_or o (if is_open_of log first && not (list_any (is_drop_of log) (calls ++ call ∷ [])) then Some (calls ++ call ∷ []) else None))
    (since-opened log calls call opening)

-- after a call that drops the log: it is not open
pub since-dropped : (log : ℕ) (calls : List AccountCall) (call : AccountCall) → is_open_of log call ≡ false → is_drop_of log call ≡ true
    → since_open log (calls ++ call ∷ []) ≡ None
since-dropped log [] call other dropping = ap (λ b. if b && true then Some [] else None) other
since-dropped log (first ∷ calls) call other dropping =
    ap (λ o. option_or o (if is_open_of log first && not (list_any (is_drop_of log) (calls ++ call ∷ [])) then Some (calls ++ call ∷ []) else None))
    (since-dropped log calls call other dropping)
    ∙ ap (λ b. if is_open_of log first && not b then Some (calls ++ call ∷ []) else None)
    (any_more (is_drop_of log) calls call ∙ ap (λ b. list_any (is_drop_of log) calls || b) dropping ∙ or-true (list_any (is_drop_of log) calls))
    ∙ never (is_open_of log first) (calls ++ call ∷ [])
  where
    never : (b : Bool) (later : List AccountCall) → (if b && false then Some later else None) ≡ None
    never true later = refl
    never false later = refl

-- after any other call: one more call since the log was opened, if it is open
pub since_more : (log : ℕ) (calls : List AccountCall) (call : AccountCall) → is_open_of log call ≡ false → is_drop_of log call ≡ false
    → since_open log (calls ++ call ∷ []) ≡ option_map (λ later. later ++ call ∷ []) (since_open log calls)
since_more log [] call other kept = ap (λ b. if b && true then Some [] else None) other
since_more log (first ∷ calls) call other kept =
    ap (λ o. option_or o (if is_open_of log first && not (list_any (is_drop_of log) (calls ++ call ∷ [])) then Some (calls ++ call ∷ []) else None))
    (since_more log calls call other kept)
    ∙ ap (λ b. option_or (option_map (λ later. later ++ call ∷ []) (since_open log calls))
    (if is_open_of log first && not b then Some (calls ++ call ∷ []) else None))
    (any_more (is_drop_of log) calls call ∙ ap (λ b. list_any (is_drop_of log) calls || b) kept ∙ or-false (list_any (is_drop_of log) calls))
    ∙ moved (since_open log calls) (is_open_of log first && not (list_any (is_drop_of log) calls))
  where
    moved : (o : Option (List AccountCall)) (b : Bool)
        → option_or (option_map (λ later. later ++ call ∷ []) o) (if b then Some (calls ++ call ∷ []) else None)
        ≡ option_map (λ later. later ++ call ∷ []) (option_or o (if b then Some calls else None))
    moved (Some later) b = refl
    moved None true = refl
    moved None false = refl

-- a row after one more call
abbrev pub row_after : AccountCall → Row → Row
row_after call row = record row { forgotten = row.forgotten || is_forget_of row.ledger call }

-- an optional first row, with one more call
row_moved : (call : AccountCall) (b : Bool) (row : Row) (rows last : List Row)
    → (if b then row_after call row ∷ (map (row_after call) rows ++ last) else map (row_after call) rows ++ last)
    ≡ map (row_after call) (if b then row ∷ rows else rows) ++ last
row_moved call true row rows last = refl
row_moved call false row rows last = refl

-- the rows after one more call: the earlier rows, and that of the call
pub rows_more : (log : ℕ) (calls : List AccountCall) (call : AccountCall)
    → rows_of log (calls ++ call ∷ []) ≡ map (row_after call) (rows_of log calls) ++ rows_of log (call ∷ [])
rows_more log [] call = refl
rows_more log (opens other ∷ calls) call = rows_more log calls call
rows_more log (readies other ledger ∷ calls) call = rows_more log calls call
rows_more log (counts_dead other size ∷ calls) call =
    let row : Row = record { ledger = 0; size = size; forgotten = true } in
    ap (λ rows. if log == other then row ∷ rows else rows) (rows_more log calls call)
    ∙ row_moved call (log == other) row (rows_of log calls) (rows_of log (call ∷ []))
rows_more log (names other ∷ calls) call = rows_more log calls call
rows_more log (unnames other ∷ calls) call = rows_more log calls call
rows_more log (forgets ledger ∷ calls) call = rows_more log calls call
rows_more log (drops other ∷ calls) call = rows_more log calls call
rows_more log (counts other ledger size ∷ calls) call =
    ap (λ b. if log == other then record { ledger = ledger; size = size; forgotten = b } ∷ rows_of log (calls ++ call ∷ []) else rows_of log
    (calls ++ call ∷ [])) (any_more (is_forget_of ledger) calls call)
    ∙ ap (λ rows. if log == other then record {
      ledger = ledger;
      size = size;
      forgotten =
          list_any (is_forget_of ledger) calls || is_forget_of ledger call;
    } ∷ rows else rows) (rows_more log calls call)
    ∙ row_moved call (log == other) (record { ledger = ledger; size = size; forgotten = list_any (is_forget_of ledger) calls }) (rows_of log calls)
    (rows_of log (call ∷ []))

-- Room of a ledger after one more call: the earlier room unless the call forgets the ledger, or the
-- room that the call makes.
pub readied_more : (log ledger : ℕ) (calls : List AccountCall) (call : AccountCall)
    → is_readied log ledger (calls ++ call ∷ []) ≡ ((is_readied log ledger calls && not (is_forget_of ledger call)) || is_readied log ledger (call ∷ []))
readied_more log ledger [] call = refl
readied_more log ledger (opens other ∷ calls) call = readied_more log ledger calls call
readied_more log ledger (counts other wanted size ∷ calls) call = readied_more log ledger calls call
readied_more log ledger (counts_dead other size ∷ calls) call = readied_more log ledger calls call
readied_more log ledger (names other ∷ calls) call = readied_more log ledger calls call
readied_more log ledger (unnames other ∷ calls) call = readied_more log ledger calls call
readied_more log ledger (forgets wanted ∷ calls) call = readied_more log ledger calls call
readied_more log ledger (drops other ∷ calls) call = readied_more log ledger calls call
readied_more log ledger (readies other wanted ∷ calls) call =
    ap (λ b. (log == other && (ledger == wanted && not b)) || is_readied log ledger (calls ++ call ∷ [])) (any_more (is_forget_of ledger) calls call)
    ∙ ap (λ b. (log == other && (ledger == wanted && not (list_any (is_forget_of ledger) calls || is_forget_of ledger call))) || b)
    (readied_more log ledger calls call)
    ∙ bits (log == other) (ledger == wanted) (list_any (is_forget_of ledger) calls) (is_forget_of ledger call) (is_readied log ledger calls)
    (is_readied log ledger (call ∷ []))
  where
    bits : (a b l f r s : Bool) → ((a && (b && not (l || f))) || ((r && not f) || s)) ≡ ((((a && (b && not l)) || r) && not f) || s)
    bits false b l f r s = refl
    bits true false l f r s = refl
    bits true true true f r s = refl
    bits true true false false r s = refl
    bits true true false true true s = refl
    bits true true false true false s = refl
