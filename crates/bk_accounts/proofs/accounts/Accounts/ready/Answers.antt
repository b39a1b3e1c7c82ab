use Rattle.std.proofs.Common.{Ok, Err, refl, sym, ap, subst, ◌∙◌, false}
use Rattle.std.specs.FinMap.{from_entries}
use Rattle.std.specs.Option.{option_map_or}
use Rattle.bk_accounts.specs.Account.{has_room, with_room}
use Rattle.bk_accounts.specs.Book.{IsReady}
use Rattle.bk_accounts.specs.Listed.{AreListedRooms}
use Rattle.bk_accounts.specs.declared.fault.AccountFault.TheVariants.{Memory, NoLog}
use Rattle.bk_accounts.proofs.Books.{account_lent, none_lent, changed_through, kept_through, ready_open, ready_account, memory_is, no_log_closed, no_log_open}
use Rattle.bk_accounts.proofs.Books.{on_err, in_success, in_fault, ready_made}
use Rattle.bk_accounts.proofs.LogAccounts.{viewed_same}
use Rattle.bk_accounts.proofs.Listings.{listed_same, listed_room, listed_again}
use Rattle.bk_accounts.proofs.accounts.Accounts.ready.Goals as goal

pub returns-in_default-clause-no_log : goal.returns-in_default-clause-no_log
returns-in_default-clause-no_log c =
    no_log_closed c.args.self.now c.args.log (Err NoLog) refl
    (none_lent c.self.inside.logs.entries c.args.self.now c.args.log c.get_mut.result c.self.view_is c.get_mut.ensures.value c.in_default.is)

pub returns-in_default-clause-room : goal.returns-in_default-clause-room
returns-in_default-clause-room c = λ room.
    let none = none_lent c.self.inside.logs.entries c.args.self.now c.args.log c.get_mut.result c.self.view_is c.get_mut.ensures.value c.in_default.is in
    let there = ready_open c.args.self.now c.args.log c.args.ledger room in
    rw none at there

-- the room existed
pub invariant_of-self-then-has_room : goal.invariant_of-self-then-has_room
invariant_of-self-then-has_room c =
    let book = from_entries c.self.inside.logs.entries in
    let found = account_lent c.self.inside.logs.entries book c.args.log c.get_mut.result c.in-Some.account refl c.get_mut.ensures.value c.in-Some.is in
    subst (λ b. AreListedRooms b c.self.inside.rooms)
    (sym (kept_through c.self.inside.logs (c.get_mut.follows.lender c.in-Some.account.now) book c.args.log c.in-Some.account.now
    c.in-Some.account.now refl found
    (c.get_mut.follows.holds c.in-Some.account.now) refl)) c.self.invariant

pub returns-then-has_room-clause-ok : goal.returns-then-has_room-clause-ok
returns-then-has_room-clause-ok c =
    let found = account_lent c.self.inside.logs.entries c.args.self.now c.args.log c.get_mut.result c.in-Some.account c.self.view_is c.get_mut.ensures.value
    c.in-Some.is in
    let account = c.in-Some.account.now in
    changed_through c.self.inside.logs (c.get_mut.follows.lender account) c.args.self.now c.args.log account account (with_room c.args.ledger) c.self.view_is
    found (c.get_mut.follows.holds account)
    (viewed_same account.total account.named account.live account c.args.ledger refl (sym c.if-has_room.ensures))

pub returns-then-has_room-clause-no_log : goal.returns-then-has_room-clause-no_log
returns-then-has_room-clause-no_log c =
    let found = account_lent c.self.inside.logs.entries c.args.self.now c.args.log c.get_mut.result c.in-Some.account c.self.view_is c.get_mut.ensures.value
    c.in-Some.is in
    no_log_open c.args.self.now c.args.log c.in-Some.account.now (Ok tt) (λ is. cc) found

pub returns-then-has_room-clause-ready : goal.returns-then-has_room-clause-ready
returns-then-has_room-clause-ready c =
    let found = account_lent c.self.inside.logs.entries c.args.self.now c.args.log c.get_mut.result c.in-Some.account c.self.view_is c.get_mut.ensures.value
    c.in-Some.is in
    subst (λ b. IsReady b c.args.log c.args.ledger) (sym (returns-then-has_room-clause-ok c))
    (ready_made c.args.self.now c.args.log c.args.ledger c.in-Some.account.now found)

-- an allocation for the list failed
pub invariant_of-self-in_err-insert : goal.invariant_of-self-in_err-insert
invariant_of-self-in_err-insert c =
    let book = from_entries c.self.inside.logs.entries in
    let found = account_lent c.self.inside.logs.entries book c.args.log c.get_mut.result c.in-Some.account refl c.get_mut.ensures.value c.in-Some.is in
    subst (λ b. AreListedRooms b c.insert.new.self)
    (sym (kept_through c.self.inside.logs (c.get_mut.follows.lender c.in-Some.account.now) book c.args.log c.in-Some.account.now
    c.in-Some.account.now refl found
    (c.get_mut.follows.holds c.in-Some.account.now) refl))
    (listed_same book c.self.inside.rooms c.insert.new.self c.self.invariant c.in_err-insert.ensures.err)

pub returns-in_err-insert-clause-no_log : goal.returns-in_err-insert-clause-no_log
returns-in_err-insert-clause-no_log c =
    let found = account_lent c.self.inside.logs.entries c.args.self.now c.args.log c.get_mut.result c.in-Some.account c.self.view_is c.get_mut.ensures.value
    c.in-Some.is in
    let memory = memory_is c.from_residual.result c.from_residual.ensures.1 in
    no_log_open c.args.self.now c.args.log c.in-Some.account.now c.from_residual.result (λ is. cc) found

pub returns-in_err-insert-clause-err : goal.returns-in_err-insert-clause-err
returns-in_err-insert-clause-err c =
    let found = account_lent c.self.inside.logs.entries c.args.self.now c.args.log c.get_mut.result c.in-Some.account c.self.view_is c.get_mut.ensures.value
    c.in-Some.is in
    on_err c.from_residual.result _
    (kept_through c.self.inside.logs (c.get_mut.follows.lender c.in-Some.account.now) c.args.self.now c.args.log c.in-Some.account.now c.in-Some.account.now
    c.self.view_is found (c.get_mut.follows.holds c.in-Some.account.now) refl)

-- an allocation for the sum failed: the list is unchanged
pub invariant_of-self-then-is_err : goal.invariant_of-self-then-is_err
invariant_of-self-then-is_err c =
    let book = from_entries c.self.inside.logs.entries in
    let found = account_lent c.self.inside.logs.entries book c.args.log c.get_mut.result c.in-Some.account refl c.get_mut.ensures.value c.in-Some.is in
    let same = in_fault c.add_room.result _ c.if-is_err.ensures.value c.add_room.ensures.err in
    let absent = ap (λ o. option_map_or (λ a. has_room a c.args.ledger) o false) found ∙ sym c.if-has_room.ensures in
    subst (λ b. AreListedRooms b c.remove.new.self)
    (sym (kept_through c.self.inside.logs (c.get_mut.follows.lender c.add_room.new.self) book c.args.log c.in-Some.account.now c.add_room.new.self refl found
    (c.get_mut.follows.holds c.add_room.new.self) same))
    (listed_again book c.self.inside.rooms c.insert.new.self c.remove.new.self c.args.log c.args.ledger c.self.invariant absent
    c.in_ok-insert.ensures.updates c.remove.ensures.updates)

pub returns-then-is_err-clause-no_log : goal.returns-then-is_err-clause-no_log
returns-then-is_err-clause-no_log c =
    let found = account_lent c.self.inside.logs.entries c.args.self.now c.args.log c.get_mut.result c.in-Some.account c.self.view_is c.get_mut.ensures.value
    c.in-Some.is in
    no_log_open c.args.self.now c.args.log c.in-Some.account.now (Err Memory) (λ is. cc) found

pub returns-then-is_err-clause-room : goal.returns-then-is_err-clause-room
returns-then-is_err-clause-room c = λ room.
    let found = account_lent c.self.inside.logs.entries c.args.self.now c.args.log c.get_mut.result c.in-Some.account c.self.view_is c.get_mut.ensures.value
    c.in-Some.is in
    c.if-has_room.ensures ∙ ready_account c.args.self.now c.args.log c.args.ledger c.in-Some.account.now found room

pub returns-then-is_err-clause-err : goal.returns-then-is_err-clause-err
returns-then-is_err-clause-err c =
    let found = account_lent c.self.inside.logs.entries c.args.self.now c.args.log c.get_mut.result c.in-Some.account c.self.view_is c.get_mut.ensures.value
    c.in-Some.is in
    kept_through c.self.inside.logs (c.get_mut.follows.lender c.add_room.new.self) c.args.self.now c.args.log c.in-Some.account.now c.add_room.new.self
    c.self.view_is found (c.get_mut.follows.holds c.add_room.new.self)
    (in_fault c.add_room.result _ c.if-is_err.ensures.value c.add_room.ensures.err)

-- the room is made and listed
pub invariant_of-self-else-is_err : goal.invariant_of-self-else-is_err
invariant_of-self-else-is_err c =
    let book = from_entries c.self.inside.logs.entries in
    let found = account_lent c.self.inside.logs.entries book c.args.log c.get_mut.result c.in-Some.account refl c.get_mut.ensures.value c.in-Some.is in
    let made = in_success c.add_room.result _ c.if-is_err.ensures.value c.add_room.ensures.ok in
    subst (λ b. AreListedRooms b c.insert.new.self)
    (sym (changed_through c.self.inside.logs (c.get_mut.follows.lender c.add_room.new.self) book c.args.log c.in-Some.account.now c.add_room.new.self
    (with_room c.args.ledger) refl found (c.get_mut.follows.holds c.add_room.new.self) made))
    (listed_room book c.self.inside.rooms c.insert.new.self c.args.log c.args.ledger c.in-Some.account.now c.self.invariant found
    c.in_ok-insert.ensures.updates)

pub returns-clause-ok : goal.returns-clause-ok
returns-clause-ok c =
    let found = account_lent c.self.inside.logs.entries c.args.self.now c.args.log c.get_mut.result c.in-Some.account c.self.view_is c.get_mut.ensures.value
    c.in-Some.is in
    changed_through c.self.inside.logs (c.get_mut.follows.lender c.add_room.new.self) c.args.self.now c.args.log c.in-Some.account.now c.add_room.new.self
    (with_room c.args.ledger) c.self.view_is found (c.get_mut.follows.holds c.add_room.new.self)
    (in_success c.add_room.result _ c.if-is_err.ensures.value c.add_room.ensures.ok)

pub returns-clause-no_log : goal.returns-clause-no_log
returns-clause-no_log c =
    let found = account_lent c.self.inside.logs.entries c.args.self.now c.args.log c.get_mut.result c.in-Some.account c.self.view_is c.get_mut.ensures.value
    c.in-Some.is in
    no_log_open c.args.self.now c.args.log c.in-Some.account.now (Ok tt) (λ is. cc) found

pub returns-clause-ready : goal.returns-clause-ready
returns-clause-ready c =
    let found = account_lent c.self.inside.logs.entries c.args.self.now c.args.log c.get_mut.result c.in-Some.account c.self.view_is c.get_mut.ensures.value
    c.in-Some.is in
    subst (λ b. IsReady b c.args.log c.args.ledger) (sym (returns-clause-ok c))
    (ready_made c.args.self.now c.args.log c.args.ledger c.in-Some.account.now found)
