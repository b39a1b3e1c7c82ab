use Rattle.std.proofs.Common.{refl, sym, ap, subst, ◌∙◌, ◌+◌, ◌<◌, ◌^◌}
use Rattle.std.specs.FinMap.{from_entries}
use Rattle.bk_accounts.specs.Account.{with_names}
use Rattle.bk_accounts.proofs.Books.{account_lent, none_lent, changed_through, unchanged, of_account}
use Rattle.bk_accounts.specs.Listed.{AreListedRooms}
use Rattle.bk_accounts.proofs.Listings.{listed_through}
use Rattle.bk_accounts.proofs.accounts.Accounts.name_many.Goals as goal
use Rattle.bk_accounts.proofs.accounts.Accounts.name_many.Goals.{in-Some, in_default}

pub name_many-requires : goal.name_many-requires
name_many-requires c =
    let found = account_lent c.self.inside.logs.entries c.args.self.now c.args.log c.get_mut.result c.in-Some.account c.self.view_is c.get_mut.ensures.value
    c.in-Some.is in
    of_account c.args.self.now c.args.log c.in-Some.account.now (λ a. a.named) (λ n. n + c.args.count < 2 ^ 64) found c.requires

pub returns : goal.returns
returns c =
    elim c.match-get_mut.branch [
      | in-Some w ↦
          let found = account_lent c.self.inside.logs.entries c.args.self.now c.args.log c.get_mut.result w.in-Some.account c.self.view_is
          c.get_mut.ensures.value w.in-Some.is in
          ap (λ s. from_entries s.logs.entries) w.self-inside-is
          ∙ changed_through c.self.inside.logs (c.get_mut.follows.lender w.name_many.new.self)
          c.args.self.now c.args.log w.in-Some.account.now w.name_many.new.self (with_names c.args.count) c.self.view_is found
          (c.get_mut.follows.holds w.name_many.new.self) w.name_many.ensures
      | in_default w ↦
          ap (λ s. from_entries s.logs.entries) w.self-inside-is ∙ ap (λ m. from_entries m.entries) c.get_mut.follows.holds-at-none ∙ c.self.view_is
          ∙ unchanged c.args.self.now c.args.log (with_names c.args.count)
          (none_lent c.self.inside.logs.entries c.args.self.now c.args.log c.get_mut.result c.self.view_is c.get_mut.ensures.value w.in_default.is)
    ]

pub invariant_of-self : goal.invariant_of-self
invariant_of-self c =
    elim c.match-get_mut.branch [
      | in-Some w ↦
          let found = account_lent c.self.inside.logs.entries (from_entries c.self.inside.logs.entries) c.args.log c.get_mut.result w.in-Some.account refl
          c.get_mut.ensures.value w.in-Some.is in
          subst (λ s. AreListedRooms (from_entries s.logs.entries) s.rooms) (sym w.self-inside-is)
          (listed_through c.self.inside.logs (c.get_mut.follows.lender w.name_many.new.self) c.self.inside.rooms c.args.log w.in-Some.account.now w.name_many.new.self
          (with_names c.args.count) c.self.invariant found (c.get_mut.follows.holds w.name_many.new.self) w.name_many.ensures (λ _. refl))
      | in_default w ↦
          subst (λ s. AreListedRooms (from_entries s.logs.entries) s.rooms) (sym w.self-inside-is)
          (subst (λ m. AreListedRooms (from_entries m.entries) c.self.inside.rooms) (sym c.get_mut.follows.holds-at-none) c.self.invariant)
    ]
