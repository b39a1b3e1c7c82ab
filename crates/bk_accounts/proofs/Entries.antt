-- The account of a log in a book, after each call.
use Rattle.std.proofs.Common.{◌≡◌, ℕ, true, false, cond, ◌==◌, Some, None, sym, ap, ◌∙◌, if◌then◌else◌}
use Rattle.std.specs.Option.{option_map}
use Rattle.std.specs.Cmp.{nat_cmp_total, unsigned_tied}
use Rattle.std.specs.FinMap.{get, get-insert, get-remove}
use Rattle.bk_accounts.specs.Account.{Account, fresh, with_room, with_size, with_dead_size, with_name, without_name, without_size}
use Rattle.bk_accounts.specs.Book.{Book}
use Rattle.bk_accounts.specs.History.{AccountCall, opens, readies, counts, counts_dead, names, unnames, forgets, drops, after, is_open_of, is_drop_of}
use Rattle.bk_accounts.proofs.Books.{map_same, get-changed, get-after_forget}

-- effect of a call on the account of an open log that it neither opens nor drops
abbrev pub effect : ℕ → AccountCall → Account → Account
effect log (opens other) account = account
effect log (drops other) account = account
effect log (readies other ledger) account = if log == other then with_room ledger account else account
effect log (counts other ledger size) account = if log == other then with_size ledger size account else account
effect log (counts_dead other size) account = if log == other then with_dead_size size account else account
effect log (names other) account = if log == other then with_name account else account
effect log (unnames other) account = if log == other then without_name account else account
effect log (forgets ledger) account = without_size ledger account

-- the account of an open log after a call that neither opens nor drops it
pub entry_after : (book : Book) (log : ℕ) (call : AccountCall) → is_open_of log call ≡ false → is_drop_of log call ≡ false
    → get (after call book) log ≡ option_map (effect log call) (get book log)
entry_after book log (opens other) apart kept =
    get-insert nat_cmp_total book other fresh log ∙ ap (λ b. cond b (Some fresh) (get book log)) (unsigned_tied log other ∙ apart)
    ∙ sym (map_same (get book log))
entry_after book log (drops other) apart kept =
    get-remove nat_cmp_total book other log ∙ ap (λ b. cond b None (get book log)) (unsigned_tied log other ∙ kept) ∙ sym (map_same (get book log))
entry_after book log (readies other ledger) apart kept = get-changed book other log (with_room ledger)
entry_after book log (counts other ledger size) apart kept = get-changed book other log (with_size ledger size)
entry_after book log (counts_dead other size) apart kept = get-changed book other log (with_dead_size size)
entry_after book log (names other) apart kept = get-changed book other log with_name
entry_after book log (unnames other) apart kept = get-changed book other log without_name
entry_after book log (forgets ledger) apart kept = get-after_forget book ledger log

-- after a call that opens the log
pub entry_opened : (book : Book) (log : ℕ) (call : AccountCall) → is_open_of log call ≡ true → get (after call book) log ≡ Some fresh
entry_opened book log (opens other) same =
    get-insert nat_cmp_total book other fresh log ∙ ap (λ b. cond b (Some fresh) (get book log)) (unsigned_tied log other ∙ same)
entry_opened book log (drops other) same = cc
entry_opened book log (readies other ledger) same = cc
entry_opened book log (counts other ledger size) same = cc
entry_opened book log (counts_dead other size) same = cc
entry_opened book log (names other) same = cc
entry_opened book log (unnames other) same = cc
entry_opened book log (forgets ledger) same = cc

-- after a call that drops the log
pub entry_dropped : (book : Book) (log : ℕ) (call : AccountCall) → is_drop_of log call ≡ true → get (after call book) log ≡ None
entry_dropped book log (drops other) same =
    get-remove nat_cmp_total book other log ∙ ap (λ b. cond b None (get book log)) (unsigned_tied log other ∙ same)
entry_dropped book log (opens other) same = cc
entry_dropped book log (readies other ledger) same = cc
entry_dropped book log (counts other ledger size) same = cc
entry_dropped book log (counts_dead other size) same = cc
entry_dropped book log (names other) same = cc
entry_dropped book log (unnames other) same = cc
entry_dropped book log (forgets ledger) same = cc
