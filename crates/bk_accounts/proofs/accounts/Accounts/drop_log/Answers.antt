use Rattle.std.proofs.Common.{sym, ap, subst, ◌∙◌}
use Rattle.std.specs.FinMap.{from_entries, remove}
use Rattle.bk_accounts.specs.Listed.{AreListedRooms}
use Rattle.bk_accounts.proofs.Maps.{get-found, removed}
use Rattle.bk_accounts.proofs.Listings.{AreLeft, left_first, left_less, left_none, left_there, one_less}
use Rattle.bk_accounts.proofs.accounts.Accounts.drop_log.Goals as goal

pub returns-in_default : goal.returns-in_default
returns-in_default c =
    removed c.self.inside.logs.entries c.remove.new.self.entries c.args.log c.remove.ensures.updates.0
    ∙ ap (λ b. remove b c.args.log) c.self.view_is

pub loop-ledger-init : goal.loop-ledger-init
loop-ledger-init c =
    let book = from_entries c.self.inside.logs.entries in
    let gone = removed c.self.inside.logs.entries c.remove.new.self.entries c.args.log c.remove.ensures.updates.0 in
    let found = get-found c.self.inside.logs.entries c.args.log _ c.remove.ensures.value ∙ c.in-Some.is in (
      subst (λ b. AreLeft b c.args.log c.in-Some.account c.self.inside.rooms) (sym gone)
          (left_first book c.args.log c.in-Some.account c.self.inside.rooms c.self.invariant found),
      gone ∙ ap (λ b. remove b c.args.log) c.self.view_is,
    )

pub loop-ledger-smaller : goal.loop-ledger-smaller
loop-ledger-smaller c =
    one_less c.remove-in-Some-pop.result _ _ c.remove-in-Some-pop.ensures.len
    (c.remove-in-Some-pop.ensures.test
    ∙ left_there (from_entries c.loop-ledger.self-inside.logs.entries) c.args.log c.in-Some-pop.ledger c.loop-ledger.account c.loop-ledger.self-inside.rooms
    c.loop-ledger.invariant.0 c.in-Some-pop.ensures.some.0)

pub loop-ledger-preserved : goal.loop-ledger-preserved
loop-ledger-preserved c = (
  subst (λ a. AreLeft (from_entries c.loop-ledger.self-inside.logs.entries) c.args.log a c.remove-in-Some-pop.new.self) (sym c.in-Some-pop.ensures.some.1)
      (left_less (from_entries c.loop-ledger.self-inside.logs.entries) c.args.log c.in-Some-pop.ledger c.loop-ledger.account c.loop-ledger.self-inside.rooms
      c.remove-in-Some-pop.new.self c.loop-ledger.invariant.0 c.remove-in-Some-pop.ensures.updates),
  c.loop-ledger.invariant.1,
)

-- the loop ends if the account has no room left
pub invariant_of-self-in_default-pop : goal.invariant_of-self-in_default-pop
invariant_of-self-in_default-pop c =
    subst (λ b. AreListedRooms b c.loop-ledger.self-inside.rooms) (sym c.loop-ledger.invariant.1)
    (left_none c.args.self.now c.args.log c.loop-ledger.account c.loop-ledger.self-inside.rooms
    (subst (λ b. AreLeft b c.args.log c.loop-ledger.account c.loop-ledger.self-inside.rooms) c.loop-ledger.invariant.1 c.loop-ledger.invariant.0)
    c.in_default-pop.ensures.none)
