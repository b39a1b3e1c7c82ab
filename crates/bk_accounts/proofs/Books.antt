-- The map of open logs and the book that it represents, after each change.
use Rattle.std.proofs.Common.{◌≡◌, ◌≢◌, ◌↔◌, ℕ, true, false, cond, ◌==◌, ◌||◌, eq-eqb, eqb-true, List, map, Some, None, Ok, Err, Option, if◌then◌else◌}
use Rattle.std.specs.Result.{is_err}
use Rattle.std.proofs.Common.{IsSome, IsNone, IsErrAnd, OnOk, OnErr, IfSome, nat_cmp, Bor, MutBor, BTreeMap, Result, IfOk, IfErr, refl, sym, ap, ◌∙◌, subst}
use Rattle.std.specs.BTreeMap.{WritesThrough, is_at}
use Rattle.std.specs.Map.{lookup}
use Rattle.std.specs.Option.{is_some, option_map, option_map_or, option_copied, option_copied_mut, ok_or}
use Rattle.std.specs.FinMap.{get, insert, from_entries, entries, get-insert}
use Rattle.std.specs.Cmp.{nat_cmp_total, unsigned_tied}
use Rattle.std.proofs.Math.Bool.{or-true}
use Rattle.bk_accounts.specs.Account.{Account, has_room, with_room, without_size}
use Rattle.bk_accounts.specs.Book.{Book, HasAccount, IsReady, book_with, after_ready, after_forget}
use Rattle.bk_accounts.specs.declared.fault.AccountFault.{AccountFault}
use Rattle.bk_accounts.specs.declared.fault.AccountFault.TheVariants.{Memory, NoLog}
use Rattle.bk_accounts.proofs.Maps.{get-entries, get-found, get-mapped, get-lookup, same_by_get, written, insert_same}
use Rattle.bk_accounts.proofs.Rooms.{room-with_room}

-- the borrowed account is that of the log
pub account_lent : (es : List (ℕ × Account)) (book : Book) (log : ℕ) (r : Option (MutBor Account)) (account : MutBor Account)
    → from_entries es ≡ book → option_copied_mut r ≡ lookup (is_at (nat_cmp log)) es → r ≡ Some account → get book log ≡ Some account.now
account_lent es book log r account view_is value lends =
    ap (λ b. get b log) (sym view_is) ∙ get-found es log _ value ∙ ap option_copied_mut lends

-- no account is borrowed if the log is not open
pub none_lent : (es : List (ℕ × Account)) (book : Book) (log : ℕ) (r : Option (MutBor Account))
    → from_entries es ≡ book → option_copied_mut r ≡ lookup (is_at (nat_cmp log)) es → r ≡ None → get book log ≡ None
none_lent es book log r view_is value lends =
    ap (λ b. get b log) (sym view_is) ∙ get-found es log _ value ∙ ap option_copied_mut lends

-- changing an account in place changes it in the book
pub changed_through : (m n : BTreeMap ℕ Account) (book : Book) (log : ℕ) (account new : Account) (change : Account → Account)
    → from_entries m.entries ≡ book → get book log ≡ Some account → WritesThrough nat_cmp (nat_cmp log) m new n → new ≡ change account
    → from_entries n.entries ≡ book_with book log change
changed_through m n book log account new change view_is found writes new_is =
    written m n log new writes (ap is_some (ap (λ b. get b log) view_is ∙ found))
    ∙ ap (λ b. insert b log new) view_is ∙ ap (insert book log) new_is
    ∙ sym (ap (λ o. option_map_or (λ a. insert book log (change a)) o book) found)

-- if the log is not open, the book is unchanged
pub unchanged : (book : Book) (log : ℕ) (change : Account → Account) → get book log ≡ None → book ≡ book_with book log change
unchanged book log change none = sym (ap (λ o. option_map_or (λ a. insert book log (change a)) o book) none)

-- a property of an open log's number is one of its account's number
pub of_account : (book : Book) (log : ℕ) (account : Account) (f : Account → ℕ) (P : ℕ → Type 0)
    → get book log ≡ Some account → IfSome (option_map f (get book log)) P → P (f account)
of_account book log account f P found holds = subst (λ o. IfSome (option_map f o) P) found holds

-- result of a look-up: the account, or `NoLog`
pub record Answers (book : Book) (log : ℕ) (result : Result (Bor Account) AccountFault) : Type 0 where
  pub «open» : IfOk result (λ account. get book log ≡ Some account.now)
  pub closed : IfErr result (λ fault. (fault ≡ NoLog) × (get book log ≡ None))

-- a look-up as a result: the account, or `NoLog`
pub answered : (book : Book) (log : ℕ) (r : Option (Bor Account)) (result : Result (Bor Account) AccountFault)
    → get book log ≡ option_copied r → result ≡ ok_or r NoLog → Answers book log result
answered book log None result found is = subst (Answers book log) (sym is) (record { «open» = tt; closed = (refl, found) })
answered book log (Some account) result found is = subst (Answers book log) (sym is) (record { «open» = found; closed = tt })

-- a log that is ready for a ledger is open
pub ready_open : (book : Book) (log ledger : ℕ) → IsReady book log ledger → HasAccount book log
ready_open book log ledger ready =
    elim (get book log) as (λ o. option_map_or (λ a. has_room a ledger) o false ≡ true → IsSome o) [
      | None ↦ λ h. h
      | Some account ↦ λ h. refl
    ] ready

-- the account of a log that is ready for a ledger has the room
pub ready_account : (book : Book) (log ledger : ℕ) (account : Account) → get book log ≡ Some account → IsReady book log ledger → has_room account ledger ≡ true
ready_account book log ledger account found ready = sym (ap (λ o. option_map_or (λ a. has_room a ledger) o false) found) ∙ ready

-- an account that is unchanged in place is unchanged in the book
pub kept_through : (m n : BTreeMap ℕ Account) (book : Book) (log : ℕ) (account new : Account)
    → from_entries m.entries ≡ book → get book log ≡ Some account → WritesThrough nat_cmp (nat_cmp log) m new n → new ≡ account
    → from_entries n.entries ≡ book
kept_through m n book log account new view_is found writes new_is =
    changed_through m n book log account new (λ a. a) view_is found writes new_is
    ∙ ap (λ o. option_map_or (λ a. insert book log a) o book) found ∙ insert_same book log account found

-- an allocation fails only with `Memory`
pub memory_is : (r : Result (Unit {0}) AccountFault) → IsErrAnd r (λ fault. fault ≡ Memory) → r ≡ Err Memory
memory_is (Ok x) h = absurd h
memory_is (Err fault) h = ap Err h

-- `NoLog` if the log is not open
pub no_log_closed : (book : Book) (log : ℕ) (r : Result (Unit {0}) AccountFault) → r ≡ Err NoLog → get book log ≡ None → (r ≡ Err NoLog) ↔ IsNone (get book log)
no_log_closed book log r is none = (λ _. ap is_some none, λ _. is)

-- a fact that always holds, holds on an error
pub on_err : {T E : Type 0} (r : Result T E) (P : Type 0) → P → OnErr r P
on_err (Ok x) P holds = tt
on_err (Err e) P holds = holds

-- a success condition, after the result was tested
pub in_success : {T E : Type 0} (r : Result T E) (P : Type 0) → false ≡ is_err r → OnOk r P → P
in_success (Ok x) P is holds = holds
in_success (Err e) P is holds = cc

pub in_fault : {T E : Type 0} (r : Result T E) (P : Type 0) → true ≡ is_err r → OnErr r P → P
in_fault (Ok x) P is holds = cc
in_fault (Err e) P is holds = holds

-- for an open log the result is not `NoLog`
pub no_log_open : (book : Book) (log : ℕ) (account : Account) (r : Result (Unit {0}) AccountFault) → r ≢ Err NoLog → get book log ≡ Some account
    → (r ≡ Err NoLog) ↔ IsNone (get book log)
no_log_open book log account r other found = (λ is. absurd (other is), λ none. let there = ap is_some found in cc)

-- the account of a log after a ledger is forgotten
pub get-after_forget : (book : Book) (ledger log : ℕ) → get (after_forget book ledger) log ≡ option_map (without_size ledger) (get book log)
get-after_forget book ledger log = get-mapped (without_size ledger) (entries book) log ∙ ap (option_map (without_size ledger)) (sym (get-lookup book log))

-- every account in place, without the ledger
pub forgotten : (es fs : List (ℕ × Account)) (book : Book) (ledger : ℕ) → from_entries es ≡ book → fs ≡ map (λ e. (e.0, without_size ledger e.1)) es
    → from_entries fs ≡ after_forget book ledger
forgotten es fs book ledger view_is mapped =
    ap (λ l. from_entries l) mapped
    ∙ same_by_get _ _ (λ log.
    get-mapped (without_size ledger) es log ∙ ap (option_map (without_size ledger)) (sym (get-entries es log) ∙ ap (λ b. get b log) view_is)
    ∙ sym (get-after_forget book ledger log))

-- nothing is changed in place
pub map_same : (o : Option Account) → option_map (λ account. account) o ≡ o
map_same None = refl
map_same (Some account) = refl

-- look-up of a log after the account of one log is changed
pub get-changed : (book : Book) (other log : ℕ) (change : Account → Account)
    → get (book_with book other change) log ≡ option_map (λ account. if log == other then change account else account) (get book log)
get-changed book other log change =
    elim (get book other)
    as (λ o. get book other ≡ o → get (option_map_or (λ account. insert book other (change account)) o book) log
    ≡ option_map (λ account. if log == other then change account else account) (get book log)) [
      | None ↦ λ none. elim (log == other)
          as (λ b. (log == other) ≡ b → get book log ≡ option_map (λ account. if b then change account else account) (get book log)) [
            | true ↦ λ same. let absent = ap (get book) (eqb-true log other same) ∙ none in absent ∙ sym (ap (option_map change) absent)
            | false ↦ λ _. sym (map_same (get book log))
          ] refl
      | Some account ↦ λ found.
          get-insert nat_cmp_total book other (change account) log ∙ ap (λ b. cond b (Some (change account)) (get book log)) (unsigned_tied log other)
          ∙ elim (log == other)
          as (λ b. (log == other) ≡ b
          → cond b (Some (change account)) (get book log) ≡ option_map (λ account. if b then change account else account) (get book log)) [
            | true ↦ λ same. sym (ap (option_map change) (ap (get book) (eqb-true log other same) ∙ found))
            | false ↦ λ _. sym (map_same (get book log))
          ] refl
    ] refl

-- new room is there
pub ready_made : (book : Book) (log ledger : ℕ) (account : Account) → get book log ≡ Some account → IsReady (after_ready book log ledger) log ledger
ready_made book log ledger account found =
    ap (λ o. option_map_or (λ a. has_room a ledger) o false)
    (get-changed book log log (with_room ledger) ∙ ap (option_map (λ a. if log == log then with_room ledger a else a)) found)
    ∙ ap (λ b. has_room (if b then with_room ledger account else account) ledger) (eq-eqb log log refl)
    ∙ room-with_room account ledger ledger ∙ ap (λ b. has_room account ledger || b) (eq-eqb ledger ledger refl) ∙ or-true (has_room account ledger)
