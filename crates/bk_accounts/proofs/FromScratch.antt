-- After every list of calls, each open log's account has the sums over the calls.
use Rattle.std.proofs.Common.{◌≡◌, ℕ, ◌+◌, ◌<◌, Bool, true, false, not, ◌&&◌, ◌||◌, ◌==◌, List, [], ◌∷◌, ◌++◌, map, Some, None, Option, nat_cmp, if◌then◌else◌}
use Rattle.std.proofs.Common.{refl, sym, ap, ◌∙◌, subst, subst₂, append-nil, eqb-true, arith}
use Rattle.std.specs.Bool.{⊤}
use Rattle.std.specs.List.{count_by}
use Rattle.std.specs.Option.{is_some, option_map, option_map_or}
use Rattle.std.specs.FinMap.{get, get-empty}
use Rattle.std.proofs.lemmas.List.Sums.{sum_by_push}
use Rattle.std.proofs.Math.Bool.{or-false}
use Rattle.bk_accounts.specs.Account.{Account, fresh, has_room, with_room, with_size, with_dead_size, with_name, without_name, without_size, remaining_size}
use Rattle.bk_accounts.specs.Book.{Book}
use Rattle.bk_accounts.specs.Rows.{Row, Tallies, total_of, remaining_of}
use Rattle.bk_accounts.specs.History.{AccountCall, opens, readies, counts, counts_dead, names, unnames, forgets, drops, after, IsDue, History, start, more}
use Rattle.bk_accounts.specs.History.{is_open_of, is_drop_of, is_name_of, is_unname_of, is_forget_of, since_open, rows_of, named_of, is_readied, TellsOf}
use Rattle.bk_accounts.proofs.Books.{ready_account, of_account}
use Rattle.bk_accounts.proofs.Rooms.{room-with_room, room-with_size, room-without_size}
use Rattle.bk_accounts.proofs.Tallies.{tallies_fresh, tallies_room, tallies_count, tallies_dead, tallies_forget}
use Rattle.bk_accounts.proofs.Histories.{since-opened, since-dropped, since_more, row_after, rows_more, readied_more}
use Rattle.bk_accounts.proofs.Entries.{effect, entry_after, entry_opened, entry_dropped}

-- the account of an open log has the sums over the calls since its last `open`
pub record Tells (log : ℕ) (later : List AccountCall) (account : Account) : Type 0 where
  pub tallies : Tallies (rows_of log later) account
  pub naming : account.named + count_by (is_unname_of log) later ≡ count_by (is_name_of log) later
  pub rooms : (ledger : ℕ) → has_room account ledger ≡ is_readied log ledger later

-- A log that is open according to the calls is open in the book, with these sums.
abbrev pub Matches : ℕ → Option (List AccountCall) → Option Account → Type 0
Matches log None None = ⊤
Matches log (Some later) (Some account) = Tells log later account
Matches log None (Some account) = ⊥
Matches log (Some later) None = ⊥

-- requirement of a call, in terms of the account
abbrev pub IsDueOf : ℕ → AccountCall → Account → Type 0
IsDueOf log (counts other ledger size) account = (log == other) ≡ true → has_room account ledger ≡ true
IsDueOf log (unnames other) account = (log == other) ≡ true → 0 < account.named
IsDueOf log _ account = ⊤

tells_fresh : (log : ℕ) → Tells log [] fresh
tells_fresh log = record { tallies = tallies_fresh; naming = refl; rooms = λ ledger. ap is_some (get-empty nat_cmp ledger) }

-- the three parts, after one more call
tells_after : (log : ℕ) (later : List AccountCall) (account : Account) (call : AccountCall)
    → Tallies (map (row_after call) (rows_of log later) ++ rows_of log (call ∷ [])) account
    → account.named + (count_by (is_unname_of log) later + (if is_unname_of log call then 1 else 0))
    ≡ count_by (is_name_of log) later + (if is_name_of log call then 1 else 0)
    → ((ledger : ℕ) → has_room account ledger ≡ ((is_readied log ledger later && not (is_forget_of ledger call)) || is_readied log ledger (call ∷ [])))
    → Tells log (later ++ call ∷ []) account
tells_after log later account call tallies naming rooms = record {
  tallies = subst (λ rows. Tallies rows account) (sym (rows_more log later call)) tallies;
  naming = ap (λ n. account.named + n) (sum_by_push (λ c. if is_unname_of log c then 1 else 0) later call) ∙ naming
      ∙ sym (sum_by_push (λ c. if is_name_of log c then 1 else 0) later call);
  rooms = λ ledger. rooms ledger ∙ sym (readied_more log ledger later call);
}

unforgotten : (call : AccountCall) (rows : List Row) → ((ledger : ℕ) → is_forget_of ledger call ≡ false) → map (row_after call) rows ≡ rows
unforgotten call [] none = refl
unforgotten call (row ∷ rows) none =
    ap (λ b. record { ledger = row.ledger; size = row.size; forgotten = row.forgotten || b } ∷ map (row_after call) rows) (none row.ledger)
    ∙ ap (λ b. record { ledger = row.ledger; size = row.size; forgotten = b } ∷ map (row_after call) rows) (or-false row.forgotten)
    ∙ ap (λ rest. row ∷ rest) (unforgotten call rows none)

kept_room : (r f s : Bool) → f ≡ false → s ≡ false → r ≡ ((r && not f) || s)
kept_room true f s h k = ap (λ b. not b || s) (sym h)
kept_room false f s h k = sym k

-- the number of names does not affect the sums
same_sums : {rows : List Row} {account : Account} {n : ℕ} → Tallies rows account → Tallies rows (record account { named = n })
same_sums tallies = record { total = tallies.total; remaining = tallies.remaining; by_ledger = tallies.by_ledger }

-- a call that does not concern the log
tells_same : (log : ℕ) (later : List AccountCall) (account : Account) (call : AccountCall) → Tells log later account
    → ((ledger : ℕ) → is_forget_of ledger call ≡ false) → rows_of log (call ∷ []) ≡ [] → is_name_of log call ≡ false → is_unname_of log call ≡ false
    → ((ledger : ℕ) → is_readied log ledger (call ∷ []) ≡ false) → Tells log (later ++ call ∷ []) account
tells_same log later account call tells kept no_row no_name no_unname no_room =
    tells_after log later account call
    (rw (unforgotten call (rows_of log later) kept, no_row, append-nil) tells.tallies)
    (rw (no_name, no_unname) (omega (arith, tells.naming)))
    (λ ledger. tells.rooms ledger
    ∙ kept_room (is_readied log ledger later) (is_forget_of ledger call) (is_readied log ledger (call ∷ [])) (kept ledger) (no_room ledger))

-- one more call
pub tells_more : (log : ℕ) (later : List AccountCall) (account : Account) (call : AccountCall) → Tells log later account → IsDueOf log call account
    → Tells log (later ++ call ∷ []) (effect log call account)
tells_more log later account (opens other) tells due = tells_same log later account (opens other) tells (λ _. refl) refl refl refl (λ _. refl)
tells_more log later account (drops other) tells due = tells_same log later account (drops other) tells (λ _. refl) refl refl refl (λ _. refl)
tells_more log later account (readies other ledger) tells due =
    elim (log == other) as (λ b. (log == other) ≡ b → Tells log (later ++ readies other ledger ∷ []) (if b then with_room ledger account else account)) [
      | true ↦ λ here. tells_after log later (with_room ledger account) (readies other ledger)
          (rw (unforgotten (readies other ledger) (rows_of log later) (λ _. refl), append-nil) (tallies_room (rows_of log later) account ledger tells.tallies))
          (omega (arith, tells.naming))
          (λ wanted. room-with_room account ledger wanted ∙ ap (λ b. b || wanted == ledger) (tells.rooms wanted)
          ∙ ready_bits (is_readied log wanted later) (wanted == ledger) (log == other) here)
      | false ↦ λ apart. tells_same log later account (readies other ledger) tells (λ _. refl) refl refl refl
          (λ wanted. ap (λ b. (b && (wanted == ledger && true)) || false) apart)
    ] refl
  where
    ready_bits : (r w h : Bool) → h ≡ true → (r || w) ≡ ((r && true) || ((h && (w && true)) || false))
    ready_bits true true h is = refl
    ready_bits true false h is = refl
    ready_bits false true h is = ap (λ b. (b && true) || false) (sym is)
    ready_bits false false true is = refl
    ready_bits false false false is = refl
tells_more log later account (counts other ledger size) tells due =
    elim (log == other) as (λ b. (log == other) ≡ b
    → Tells log (later ++ counts other ledger size ∷ []) (if b then with_size ledger size account else account)) [
      | true ↦ λ here. tells_after log later (with_size ledger size account) (counts other ledger size)
          (rw (unforgotten (counts other ledger size) (rows_of log later) (λ _. refl), here)
          (tallies_count (rows_of log later) account ledger size tells.tallies))
          (omega (arith, tells.naming))
          (λ wanted. room-with_size account ledger size wanted (due here) ∙ tells.rooms wanted ∙ kept_room (is_readied log wanted later) false false refl refl)
      | false ↦ λ apart. tells_same log later account (counts other ledger size) tells (λ _. refl)
          (ap (λ b. if b then record { ledger = ledger; size = size; forgotten = false } ∷ [] else []) apart) refl refl (λ _. refl)
    ] refl
tells_more log later account (counts_dead other size) tells due =
    elim (log == other) as (λ b. (log == other) ≡ b → Tells log (later ++ counts_dead other size ∷ []) (if b then with_dead_size size account else account)) [
      | true ↦ λ here. tells_after log later (with_dead_size size account) (counts_dead other size)
          (rw (unforgotten (counts_dead other size) (rows_of log later) (λ _. refl), here) (tallies_dead (rows_of log later) account 0 size tells.tallies))
          (omega (arith, tells.naming))
          (λ wanted. tells.rooms wanted ∙ kept_room (is_readied log wanted later) false false refl refl)
      | false ↦ λ apart. tells_same log later account (counts_dead other size) tells (λ _. refl)
          (ap (λ b. if b then record { ledger = 0; size = size; forgotten = true } ∷ [] else []) apart) refl refl (λ _. refl)
    ] refl
tells_more log later account (names other) tells due =
    elim (log == other) as (λ b. (log == other) ≡ b → Tells log (later ++ names other ∷ []) (if b then with_name account else account)) [
      | true ↦ λ here. tells_after log later (with_name account) (names other)
          (rw (unforgotten (names other) (rows_of log later) (λ _. refl), append-nil) (same_sums tells.tallies))
          (rw here (omega (arith, tells.naming)))
          (λ wanted. tells.rooms wanted ∙ kept_room (is_readied log wanted later) false false refl refl)
      | false ↦ λ apart. tells_same log later account (names other) tells (λ _. refl) refl apart refl (λ _. refl)
    ] refl
tells_more log later account (unnames other) tells due =
    elim (log == other) as (λ b. (log == other) ≡ b → Tells log (later ++ unnames other ∷ []) (if b then without_name account else account)) [
      | true ↦ λ here. tells_after log later (without_name account) (unnames other)
          (rw (unforgotten (unnames other) (rows_of log later) (λ _. refl), append-nil) (same_sums tells.tallies))
          (rw here (omega (arith, tells.naming, due here)))
          (λ wanted. tells.rooms wanted ∙ kept_room (is_readied log wanted later) false false refl refl)
      | false ↦ λ apart. tells_same log later account (unnames other) tells (λ _. refl) refl refl apart (λ _. refl)
    ] refl
tells_more log later account (forgets ledger) tells due =
    tells_after log later (without_size ledger account) (forgets ledger)
    (rw append-nil (tallies_forget (rows_of log later) account ledger tells.tallies))
    (omega (arith, tells.naming))
    (λ wanted. room-without_size account ledger wanted ∙ ap (λ b. b && not (ledger == wanted)) (tells.rooms wanted)
    ∙ last (is_readied log wanted later && not (ledger == wanted)))
  where
    last : (b : Bool) → b ≡ (b || false)
    last true = refl
    last false = refl

due_of : (book : Book) (log : ℕ) (account : Account) (call : AccountCall) → get book log ≡ Some account → IsDue call book → IsDueOf log call account
due_of book log account (opens other) found due = tt
due_of book log account (drops other) found due = tt
due_of book log account (readies other ledger) found due = tt
due_of book log account (counts_dead other size) found due = tt
due_of book log account (names other) found due = tt
due_of book log account (forgets ledger) found due = tt
due_of book log account (counts other ledger size) found due =
    λ here. ready_account book other ledger account (ap (get book) (sym (eqb-true log other here)) ∙ found) due
due_of book log account (unnames other) found due =
    λ here. of_account book other account (λ a. a.named) (λ n. 0 < n) (ap (get book) (sym (eqb-true log other here)) ∙ found) due

match_more : (log : ℕ) (call : AccountCall) (book : Book) → IsDue call book → (since : Option (List AccountCall)) (entry : Option Account)
    → get book log ≡ entry
    → Matches log since entry → Matches log (option_map (λ later. later ++ call ∷ []) since) (option_map (effect log call) entry)
match_more log call book due None None found match = tt
match_more log call book due (Some later) (Some account) found match = tells_more log later account call match (due_of book log account call found due)
match_more log call book due None (Some account) found match = match
match_more log call book due (Some later) None found match = match

-- the book corresponds to the calls
pub matches : {calls : List AccountCall} {book : Book} → History calls book → (log : ℕ) → Matches log (since_open log calls) (get book log)
matches start log = subst (Matches log None) (sym (get-empty nat_cmp log)) tt
matches (more {calls = calls} {book = book} call run due) log =
    elim (is_open_of log call) as (λ b. is_open_of log call ≡ b → Matches log (since_open log (calls ++ call ∷ [])) (get (after call book) log)) [
      | true ↦ λ opening. subst₂ (Matches log) (sym (since-opened log calls call opening)) (sym (entry_opened book log call opening)) (tells_fresh log)
      | false ↦ λ other. elim (is_drop_of log call)
          as (λ b. is_drop_of log call ≡ b → Matches log (since_open log (calls ++ call ∷ [])) (get (after call book) log)) [
            | true ↦ λ dropping. subst₂ (Matches log) (sym (since-dropped log calls call other dropping)) (sym (entry_dropped book log call dropping)) tt
            | false ↦ λ kept. subst₂ (Matches log) (sym (since_more log calls call other kept)) (sym (entry_after book log call other kept))
                (match_more log call book due (since_open log calls) (get book log) refl (matches run log))
          ] refl
    ] refl

-- what follows for a log that corresponds to the calls
record Told (log : ℕ) (since : Option (List AccountCall)) (entry : Option Account) : Type 0 where
  total : option_map (λ account. account.total) entry ≡ option_map (λ later. total_of (rows_of log later)) since
  remaining : option_map remaining_size entry ≡ option_map (λ later. remaining_of (rows_of log later)) since
  named : option_map (λ account. account.named) entry ≡ option_map (named_of log) since
  ready : (ledger : ℕ) → option_map_or (λ account. has_room account ledger) entry false ≡ option_map_or (is_readied log ledger) since false

told : (log : ℕ) (since : Option (List AccountCall)) (entry : Option Account) → Matches log since entry → Told log since entry
told log None None match = record { total = refl; remaining = refl; named = refl; ready = λ _. refl }
told log (Some later) (Some account) match = record {
  total = ap (λ n. Some n) match.tallies.total;
  remaining = ap (λ n. Some n) match.tallies.remaining;
  named = ap (λ n. Some n) (omega (arith, match.naming));
  ready = match.rooms;
}
told log None (Some account) match = absurd match
told log (Some later) None match = absurd match

-- the book has the sums over the calls
pub from_scratch : (calls : List AccountCall) (book : Book) → History calls book → TellsOf calls book
from_scratch calls book run =
    let each : (log : ℕ) → Told log (since_open log calls) (get book log) = λ log. told log (since_open log calls) (get book log) (matches run log) in
    record {
      total = λ log. (each log).total;
      remaining = λ log. (each log).remaining;
      named = λ log. (each log).named;
      ready = λ log ledger. (each log).ready ledger;
    }
