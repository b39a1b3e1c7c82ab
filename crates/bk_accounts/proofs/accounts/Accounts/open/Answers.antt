use Rattle.std.proofs.Common.{sym, ap, subst, ◌∙◌}
use Rattle.std.specs.FinMap.{insert, from_entries}
use Rattle.bk_accounts.specs.Book.{IsNotOpen}
use Rattle.bk_accounts.specs.Listed.{AreListedRooms}
use Rattle.bk_accounts.proofs.Listings.{listed_opened}
use Rattle.bk_accounts.proofs.Maps.{inserted}
use Rattle.bk_accounts.proofs.accounts.Accounts.open.Goals as goal

pub returns-clause-ok : goal.returns-clause-ok
returns-clause-ok c =
    inserted c.self.inside.logs.entries c.insert.new.self.entries c.args.log c.new.result c.in_ok-insert.ensures.updates.0
    ∙ ap (λ b. insert b c.args.log c.new.result) c.self.view_is ∙ ap (insert c.args.self.now c.args.log) c.new.ensures

pub invariant_of-self-2 : goal.invariant_of-self-2
invariant_of-self-2 c =
    let made = inserted c.self.inside.logs.entries c.insert.new.self.entries c.args.log c.new.result c.in_ok-insert.ensures.updates.0
    ∙ ap (insert (from_entries c.self.inside.logs.entries) c.args.log) c.new.ensures in
    subst (λ b. AreListedRooms b c.self.inside.rooms) (sym made)
    (listed_opened (from_entries c.self.inside.logs.entries) c.self.inside.rooms c.args.log c.self.invariant
    (subst (λ b. IsNotOpen b c.args.log) (sym c.self.view_is) c.requires))
