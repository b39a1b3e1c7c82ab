-- Totals and names of all logs after each call, as functions of the book.
use Rattle.std.proofs.Common.{◌≡◌, ℕ, ◌+◌, ◌-◌, Bool, true, false, cond, ◌==◌, Some, None, Option, refl, ap, ◌∙◌, if◌then◌else◌}
use Rattle.std.specs.Option.{option_map}
use Rattle.std.specs.Cmp.{nat_cmp_total, unsigned_tied}
use Rattle.std.specs.FinMap.{get, get-insert, get-remove}
use Rattle.bk_accounts.specs.Account.{Account, fresh, with_room, with_size, with_dead_size, with_name, with_names, without_name}
use Rattle.bk_accounts.specs.Book.{Book, total_in, named_in, book_with, after_open, after_ready, after_count, after_count_dead, after_name, after_names, after_unname}
use Rattle.bk_accounts.specs.Book.{after_drop}
use Rattle.bk_accounts.proofs.Books.{get-changed}

-- a number of an account that the change turns into another
number-changed : (number : Account → ℕ) (change : Account → Account) (to : ℕ → ℕ) → ((account : Account) → number (change account) ≡ to (number account))
    → (book : Book) (log q : ℕ)
    → option_map number (get (book_with book log change) q) ≡ option_map (λ n. if q == log then to n else n) (option_map number (get book q))
number-changed number change to is book log q = ap (option_map number) (get-changed book log q change) ∙ inside (get book q) (q == log)
  where
    inside : (o : Option Account) (b : Bool) → option_map number (option_map (λ account. if b then change account else account) o)
        ≡ option_map (λ n. if b then to n else n) (option_map number o)
    inside None b = refl
    inside (Some account) true = ap (λ n. Some n) (is account)
    inside (Some account) false = refl

-- a number of an account that the change does not affect
number-kept : (number : Account → ℕ) (change : Account → Account) → ((account : Account) → number (change account) ≡ number account)
    → (book : Book) (log q : ℕ) → option_map number (get (book_with book log change) q) ≡ option_map number (get book q)
number-kept number change is book log q = number-changed number change (λ n. n) is book log q ∙ same (q == log) (option_map number (get book q))
  where
    same : (b : Bool) (o : Option ℕ) → option_map (λ n. if b then n else n) o ≡ o
    same b None = refl
    same true (Some n) = refl
    same false (Some n) = refl

pub total_in-after_count : (book : Book) (log ledger size q : ℕ)
    → total_in (after_count book log ledger size) q ≡ option_map (λ total. if q == log then total + size else total) (total_in book q)
total_in-after_count book log ledger size q = number-changed (λ a. a.total) (with_size ledger size) (λ n. n + size) (λ _. refl) book log q

pub total_in-after_count_dead : (book : Book) (log size q : ℕ)
    → total_in (after_count_dead book log size) q ≡ option_map (λ total. if q == log then total + size else total) (total_in book q)
total_in-after_count_dead book log size q = number-changed (λ a. a.total) (with_dead_size size) (λ n. n + size) (λ _. refl) book log q

pub total_in-after_ready : (book : Book) (log ledger q : ℕ) → total_in (after_ready book log ledger) q ≡ total_in book q
total_in-after_ready book log ledger q = number-kept (λ a. a.total) (with_room ledger) (λ _. refl) book log q

pub total_in-after_name : (book : Book) (log q : ℕ) → total_in (after_name book log) q ≡ total_in book q
total_in-after_name book log q = number-kept (λ a. a.total) with_name (λ _. refl) book log q

pub total_in-after_names : (book : Book) (log n q : ℕ) → total_in (after_names book log n) q ≡ total_in book q
total_in-after_names book log n q = number-kept (λ a. a.total) (with_names n) (λ _. refl) book log q

pub total_in-after_unname : (book : Book) (log q : ℕ) → total_in (after_unname book log) q ≡ total_in book q
total_in-after_unname book log q = number-kept (λ a. a.total) without_name (λ _. refl) book log q

pub named_in-after_name : (book : Book) (log q : ℕ)
    → named_in (after_name book log) q ≡ option_map (λ named. if q == log then named + 1 else named) (named_in book q)
named_in-after_name book log q = number-changed (λ a. a.named) with_name (λ n. n + 1) (λ _. refl) book log q

pub named_in-after_names : (book : Book) (log n q : ℕ)
    → named_in (after_names book log n) q ≡ option_map (λ named. if q == log then named + n else named) (named_in book q)
named_in-after_names book log n q = number-changed (λ a. a.named) (with_names n) (λ m. m + n) (λ _. refl) book log q

pub named_in-after_unname : (book : Book) (log q : ℕ)
    → named_in (after_unname book log) q ≡ option_map (λ named. if q == log then named - 1 else named) (named_in book q)
named_in-after_unname book log q = number-changed (λ a. a.named) without_name (λ n. n - 1) (λ _. refl) book log q

pub named_in-after_ready : (book : Book) (log ledger q : ℕ) → named_in (after_ready book log ledger) q ≡ named_in book q
named_in-after_ready book log ledger q = number-kept (λ a. a.named) (with_room ledger) (λ _. refl) book log q

pub named_in-after_count : (book : Book) (log ledger size q : ℕ) → named_in (after_count book log ledger size) q ≡ named_in book q
named_in-after_count book log ledger size q = number-kept (λ a. a.named) (with_size ledger size) (λ _. refl) book log q

-- a number of a log after it is opened or dropped
number-opened : (number : Account → ℕ) (book : Book) (log q : ℕ)
    → option_map number (get (after_open book log) q) ≡ (if q == log then Some (number fresh) else option_map number (get book q))
number-opened number book log q =
    ap (option_map number) (get-insert nat_cmp_total book log fresh q ∙ ap (λ b. cond b (Some fresh) (get book q)) (unsigned_tied q log)) ∙ inside (q == log)
  where
    inside : (b : Bool) → option_map number (cond b (Some fresh) (get book q)) ≡ (if b then Some (number fresh) else option_map number (get book q))
    inside true = refl
    inside false = refl

number-dropped : (number : Account → ℕ) (book : Book) (log q : ℕ)
    → option_map number (get (after_drop book log) q) ≡ (if q == log then None else option_map number (get book q))
number-dropped number book log q =
    ap (option_map number) (get-remove nat_cmp_total book log q ∙ ap (λ b. cond b None (get book q)) (unsigned_tied q log)) ∙ inside (q == log)
  where
    inside : (b : Bool) → option_map number (cond b None (get book q)) ≡ (if b then None else option_map number (get book q))
    inside true = refl
    inside false = refl

pub total_in-after_open : (book : Book) (log q : ℕ) → total_in (after_open book log) q ≡ (if q == log then Some 0 else total_in book q)
total_in-after_open book log q = number-opened (λ a. a.total) book log q

pub named_in-after_open : (book : Book) (log q : ℕ) → named_in (after_open book log) q ≡ (if q == log then Some 0 else named_in book q)
named_in-after_open book log q = number-opened (λ a. a.named) book log q

pub total_in-after_drop : (book : Book) (log q : ℕ) → total_in (after_drop book log) q ≡ (if q == log then None else total_in book q)
total_in-after_drop book log q = number-dropped (λ a. a.total) book log q

pub named_in-after_drop : (book : Book) (log q : ℕ) → named_in (after_drop book log) q ≡ (if q == log then None else named_in book q)
named_in-after_drop book log q = number-dropped (λ a. a.named) book log q
