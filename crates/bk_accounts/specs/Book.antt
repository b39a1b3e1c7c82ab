-- The accounts of all open logs as a finite map, the `Book`, and the effect of each call on it. The
-- contracts of `Accounts` state these functions.
use Rattle.std.specs.Prelude.{ℕ, Bool, false, Option, IsTrue, IsSome, IsNone, map}
use Rattle.std.specs.Coded.{Coded, coded_ℕ}
use Rattle.std.specs.FinMap as finmap
use Rattle.std.specs.Option.{option_map, option_map_or, unwrap_or}
use Rattle.std.specs.Ordering.{nat_cmp}
use Rattle.bk_accounts.specs.Account.{Account, account_code, remaining_size, has_room, fresh, with_room, with_size, with_dead_size, with_name, without_name}
use Rattle.bk_accounts.specs.Account.{with_names, without_size}

-- account of each open log, by log id
abbrev pub Book : Type 0
Book = finmap.FinMap nat_cmp Account

-- encoding as the list of entries
abbrev pub book_code : Coded Book
book_code = finmap.code coded_ℕ account_code

-- the log is open
abbrev pub HasAccount : Book → ℕ → Type 0
HasAccount book log = IsSome (finmap.get book log)

-- the log is not open
abbrev pub IsNotOpen : Book → ℕ → Type 0
IsNotOpen book log = IsNone (finmap.get book log)

-- whether the log is open and has room for the ledger's sum
abbrev pub is_ready : Book → ℕ → ℕ → Bool
is_ready book log ledger = option_map_or (λ account. has_room account ledger) (finmap.get book log) false

-- the log is open and has room for the ledger's sum
abbrev pub IsReady : Book → ℕ → ℕ → Type 0
IsReady book log ledger = IsTrue (is_ready book log ledger)

-- total of an open log, in bytes
abbrev pub total_in : Book → ℕ → Option ℕ
total_in book log = option_map (λ account. account.total) (finmap.get book log)

-- bytes that remain of an open log
abbrev pub remaining_in : Book → ℕ → Option ℕ
remaining_in book log = option_map remaining_size (finmap.get book log)

-- number of index entries that point into an open log
abbrev pub named_in : Book → ℕ → Option ℕ
named_in book log = option_map (λ account. account.named) (finmap.get book log)

-- total of a log, 0 if it is not open
abbrev pub total_at : Book → ℕ → ℕ
total_at book log = unwrap_or (total_in book log) 0

-- bytes that remain of a log, 0 if it is not open
abbrev pub remaining_at : Book → ℕ → ℕ
remaining_at book log = unwrap_or (remaining_in book log) 0

-- book with the account of one log changed; unchanged if the log is not open
abbrev pub book_with : Book → ℕ → (Account → Account) → Book
book_with book log change = option_map_or (λ account. finmap.insert book log (change account)) (finmap.get book log) book

-- effect of each call on the book; `open` adds an empty account
abbrev pub after_open : Book → ℕ → Book
after_open book log = finmap.insert book log fresh

abbrev pub after_ready : Book → ℕ → ℕ → Book
after_ready book log ledger = book_with book log (with_room ledger)

abbrev pub after_count : Book → ℕ → ℕ → ℕ → Book
after_count book log ledger size = book_with book log (with_size ledger size)

abbrev pub after_count_dead : Book → ℕ → ℕ → Book
after_count_dead book log size = book_with book log (with_dead_size size)

abbrev pub after_name : Book → ℕ → Book
after_name book log = book_with book log with_name

-- the effect of `count` calls of `name`
abbrev pub after_names : Book → ℕ → ℕ → Book
after_names book log count = book_with book log (with_names count)

abbrev pub after_unname : Book → ℕ → Book
after_unname book log = book_with book log without_name

-- the ledger has no room in any log
abbrev pub after_forget : Book → ℕ → Book
after_forget book ledger = finmap.from_entries (map (λ e. (e.0, without_size ledger e.1)) (finmap.entries book))

abbrev pub after_drop : Book → ℕ → Book
after_drop book log = finmap.remove book log
