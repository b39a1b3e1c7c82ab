use Rattle.std.proofs.Common.{refl, sym, ap, ◌∙◌}
use Rattle.std.specs.FinMap.{from_entries}
use Rattle.bk_accounts.specs.Account.{without_size}
use Rattle.bk_accounts.specs.Book.{after_forget}
use Rattle.bk_accounts.proofs.Books.{account_lent, none_lent, changed_through, unchanged}
use Rattle.bk_accounts.proofs.Listings.{forgotten_one, unready-forget}
use Rattle.bk_accounts.proofs.accounts.Accounts.forget.Goals as goal

pub loop-log-preserved-in-Some-get_mut : goal.loop-log-preserved-in-Some-get_mut
loop-log-preserved-in-Some-get_mut c =
    let book = from_entries c.loop-log.self-inside.logs.entries in
    let found = account_lent c.loop-log.self-inside.logs.entries book c.in-Some.log c.get_mut.result c.in-Some-get_mut.account refl
    c.get_mut.ensures.value c.in-Some-get_mut.is in
    let made = changed_through c.loop-log.self-inside.logs (c.get_mut.follows.lender c.forget.new.self) book c.in-Some.log c.in-Some-get_mut.account.now
    c.forget.new.self (without_size c.args.ledger) refl found (c.get_mut.follows.holds c.forget.new.self) c.forget.ensures in
    forgotten_one book _ (from_entries c.self.inside.logs.entries) c.loop-log.self-inside.rooms c.remove.new.self c.in-Some.log c.args.ledger
    c.loop-log.invariant.0 c.loop-log.invariant.1 c.remove.ensures.updates made

pub loop-log-preserved : goal.loop-log-preserved
loop-log-preserved c =
    let book = from_entries c.loop-log.self-inside.logs.entries in
    let none = none_lent c.loop-log.self-inside.logs.entries book c.in-Some.log c.get_mut.result refl c.get_mut.ensures.value c.in_default-get_mut.is in
    let made = ap (λ m. from_entries m.entries) c.get_mut.follows.holds-at-none ∙ unchanged book c.in-Some.log (without_size c.args.ledger) none in
    forgotten_one book _ (from_entries c.self.inside.logs.entries) c.loop-log.self-inside.rooms c.remove.new.self c.in-Some.log c.args.ledger
    c.loop-log.invariant.0 c.loop-log.invariant.1 c.remove.ensures.updates made

-- the loop ends if no log has room for the ledger
pub returns : goal.returns
returns c =
    sym (unready-forget (from_entries c.loop-log.self-inside.logs.entries) c.args.ledger
    (λ log. sym (c.loop-log.invariant.0 log c.args.ledger) ∙ c.in_default.ensures.none log))
    ∙ c.loop-log.invariant.1 ∙ ap (λ b. after_forget b c.args.ledger) c.self.view_is
