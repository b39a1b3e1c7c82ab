use Rattle.std.proofs.Common.{sym, ap, ◌∙◌, ◌+◌, ◌<◌, ◌^◌}
use Rattle.std.specs.Option.{is_some}
use Rattle.std.specs.FinMap.{get}
use Rattle.bk_accounts.specs.Account.{with_size}
use Rattle.bk_accounts.proofs.Maps.{get-entries, lent}
use Rattle.bk_accounts.proofs.Books.{account_lent, changed_through, of_account, ready_account, ready_open}
use Rattle.bk_accounts.proofs.Rooms.{room-with_size}
use Rattle.bk_accounts.proofs.Listings.{listed_through}
use Rattle.bk_accounts.proofs.accounts.Accounts.count.Goals as goal

pub unwrap-requires : goal.unwrap-requires
unwrap-requires c =
    lent c.get_mut.result _ c.get_mut.ensures.value
    (ap is_some (sym (get-entries c.self.inside.logs.entries c.args.log)) ∙ ap (λ b. is_some (get b c.args.log)) c.self.view_is
    ∙ ready_open c.args.self.now c.args.log c.args.ledger c.requires.ready)

pub count-requires-clause-ready : goal.count-requires-clause-ready
count-requires-clause-ready c =
    let found = account_lent c.self.inside.logs.entries c.args.self.now c.args.log c.get_mut.result c.unwrap.result c.self.view_is c.get_mut.ensures.value
    c.unwrap.ensures in
    ready_account c.args.self.now c.args.log c.args.ledger c.unwrap.result.now found c.requires.ready

pub count-requires-clause-fits : goal.count-requires-clause-fits
count-requires-clause-fits c =
    let found = account_lent c.self.inside.logs.entries c.args.self.now c.args.log c.get_mut.result c.unwrap.result c.self.view_is c.get_mut.ensures.value
    c.unwrap.ensures in
    of_account c.args.self.now c.args.log c.unwrap.result.now (λ a. a.total) (λ n. n + c.args.size < 2 ^ 32) found c.requires.fits

pub returns : goal.returns
returns c =
    let found = account_lent c.self.inside.logs.entries c.args.self.now c.args.log c.get_mut.result c.unwrap.result c.self.view_is c.get_mut.ensures.value
    c.unwrap.ensures in
    changed_through c.self.inside.logs (c.get_mut.follows.lender c.count.new.self) c.args.self.now c.args.log c.unwrap.result.now c.count.new.self
    (with_size c.args.ledger c.args.size) c.self.view_is found (c.get_mut.follows.holds c.count.new.self) c.count.ensures

pub invariant_of-self : goal.invariant_of-self
invariant_of-self c =
    let found = account_lent c.self.inside.logs.entries c.args.self.now c.args.log c.get_mut.result c.unwrap.result c.self.view_is c.get_mut.ensures.value
    c.unwrap.ensures in
    let there = ready_account c.args.self.now c.args.log c.args.ledger c.unwrap.result.now found c.requires.ready in
    listed_through c.self.inside.logs (c.get_mut.follows.lender c.count.new.self) c.self.inside.rooms c.args.log c.unwrap.result.now c.count.new.self
    (with_size c.args.ledger c.args.size) c.self.invariant (ap (λ b. get b c.args.log) c.self.view_is ∙ found)
    (c.get_mut.follows.holds c.count.new.self) c.count.ensures (λ l. room-with_size c.unwrap.result.now c.args.ledger c.args.size l there)
