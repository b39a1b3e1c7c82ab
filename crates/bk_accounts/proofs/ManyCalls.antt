-- Several calls on one log in one: their names, or the bytes of one ledger.
use Rattle.std.proofs.Common.{◌≡◌, ℕ, ◌+◌, Bool, true, false, cond, Some, None, nat_cmp, unwrap_or, eq-eqb, refl, sym, ap, ◌∙◌, arith}
use Rattle.std.specs.Cmp.{nat_cmp_total, unsigned_tied}
use Rattle.std.specs.Ordering.{eq_by_cmp}
use Rattle.std.specs.Option.{is_some, option_map_or}
use Rattle.std.specs.FinMap.{FinMap, get, insert, get-insert}
use Rattle.bk_accounts.specs.Account.{Account, ledger_size, with_room, with_size, with_dead_size, with_name, with_names}
use Rattle.bk_accounts.specs.Book.{Book, book_with, after_ready, after_count, after_count_dead, after_name, after_names}
use Rattle.bk_accounts.proofs.Maps.{same_by_get, insert_same}

-- a key inserted again
insert_again : {X : Type 0} (m : FinMap nat_cmp X) (k : ℕ) (v w : X) → insert (insert m k v) k w ≡ insert m k w
insert_again m k v w = same_by_get _ _ (λ q.
    get-insert nat_cmp_total (insert m k v) k w q ∙ ap (cond (eq_by_cmp nat_cmp q k) (Some w)) (get-insert nat_cmp_total m k v q)
    ∙ either (eq_by_cmp nat_cmp q k) q ∙ sym (get-insert nat_cmp_total m k w q))
  where
    either : (b : Bool) (q : ℕ) → cond b (Some w) (cond b (Some v) (get m q)) ≡ cond b (Some w) (get m q)
    either true q = refl
    either false q = refl

get_inserted : {X : Type 0} (m : FinMap nat_cmp X) (k : ℕ) (v : X) → get (insert m k v) k ≡ Some v
get_inserted m k v = get-insert nat_cmp_total m k v k ∙ ap (λ b. cond b (Some v) (get m k)) (unsigned_tied k k ∙ eq-eqb k k refl)

-- two changes of the account of one log are one change
twice : (book : Book) (log : ℕ) (first next both : Account → Account) → ((account : Account) → next (first account) ≡ both account)
    → book_with (book_with book log first) log next ≡ book_with book log both
twice book log first next both is =
    elim (get book log)
    as (λ o. get book log ≡ o → book_with (option_map_or (λ account. insert book log (first account)) o book) log next
    ≡ option_map_or (λ account. insert book log (both account)) o book) [
      | None ↦ λ none. ap (λ o. option_map_or (λ account. insert book log (next account)) o book) none
      | Some account ↦ λ _.
          ap (λ o. option_map_or (λ new. insert (insert book log (first account)) log (next new)) o (insert book log (first account)))
          (get_inserted book log (first account))
          ∙ insert_again book log (first account) (next (first account)) ∙ ap (insert book log) (is account)
    ] refl

-- a change that leaves the account
none_changed : (book : Book) (log : ℕ) (change : Account → Account) → ((account : Account) → change account ≡ account) → book_with book log change ≡ book
none_changed book log change is =
    elim (get book log) as (λ o. get book log ≡ o → option_map_or (λ account. insert book log (change account)) o book ≡ book) [
      | None ↦ λ _. refl
      | Some account ↦ λ found. ap (insert book log) (is account) ∙ insert_same book log account found
    ] refl

-- a number of names and one more
pub names_more : (book : Book) (log n : ℕ) → after_name (after_names book log n) log ≡ after_names book log (n + 1)
names_more book log n = twice book log (with_names n) with_name (with_names (n + 1)) (λ account.
    let named : (account.named + n) + 1 ≡ account.named + (n + 1) = omega arith in
    ap (λ m. record account { named = m }) named)

pub names_none : (book : Book) (log : ℕ) → after_names book log 0 ≡ book
names_none book log = none_changed book log (with_names 0) (λ account.
    let named : account.named + 0 ≡ account.named = omega arith in
    ap (λ m. record account { named = m }) named)

-- bytes of a ledger counted after others of it, with its room made before each
sizes_add : (ledger a b : ℕ) (account : Account) → with_size ledger b (with_room ledger (with_size ledger a account)) ≡ with_size ledger (a + b) account
sizes_add ledger a b account =
    let size = ledger_size account ledger in
    let live = insert account.live ledger (size + a) in
    let total : (account.total + a) + b ≡ account.total + (a + b) = omega arith in
    let sum : (size + a) + b ≡ size + (a + b) = omega arith in
    let there : get live ledger ≡ Some (size + a) = get_inserted account.live ledger (size + a) in
    let room : cond (is_some (get live ledger)) live (insert live ledger 0) ≡ live = ap (λ o. cond (is_some o) live (insert live ledger 0)) there in
    let counted : insert live ledger (unwrap_or (get live ledger) 0 + b) ≡ insert account.live ledger (size + (a + b)) =
    ap (λ o. insert live ledger (unwrap_or o 0 + b)) there ∙ insert_again account.live ledger (size + a) ((size + a) + b) ∙ ap (insert account.live ledger) sum in
    ap (λ parts. record account { total = (account.total + a) + b; live = insert parts ledger (unwrap_or (get parts ledger) 0 + b) }) room
    ∙ (λ i. record account { total = total i; live = counted i })

-- bytes of a ledger counted twice on one log
pub counts_add : (book : Book) (log ledger a b : ℕ)
    → after_count (after_ready (after_count (after_ready book log ledger) log ledger a) log ledger) log ledger b
    ≡ after_count (after_ready book log ledger) log ledger (a + b)
counts_add book log ledger a b =
    let ready = after_ready book log ledger in
    twice (after_count ready log ledger a) log (with_room ledger) (with_size ledger b) (λ account. with_size ledger b (with_room ledger account)) (λ _. refl)
    ∙ twice ready log (with_size ledger a) (λ account. with_size ledger b (with_room ledger account)) (with_size ledger (a + b)) (sizes_add ledger a b)

-- bytes of deleted ledgers counted twice on one log
pub counts_dead_add : (book : Book) (log a b : ℕ) → after_count_dead (after_count_dead book log a) log b ≡ after_count_dead book log (a + b)
counts_dead_add book log a b = twice book log (with_dead_size a) (with_dead_size b) (with_dead_size (a + b)) (λ account.
    let total : (account.total + a) + b ≡ account.total + (a + b) = omega arith in
    ap (λ m. record account { total = m }) total)
