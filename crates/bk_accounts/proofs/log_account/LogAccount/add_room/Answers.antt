use Rattle.std.proofs.Common.{sym, subst, false}
use Rattle.std.specs.FinMap.{from_entries}
use Rattle.bk_accounts.specs.Parts.{IsSplit, with_last}
use Rattle.bk_accounts.proofs.LogAccounts.{split_room, viewed_room}
use Rattle.bk_accounts.proofs.LastCounts.{kept_back, viewed_back, there_in}
use Rattle.bk_accounts.proofs.Maps.{none_is, inserted}
use Rattle.bk_accounts.proofs.log_account.LogAccount.add_room.Goals as goal

pub invariant_of-self-2 : goal.invariant_of-self-2
invariant_of-self-2 c =
    let was = c.self.inside in
    let live = with_last (from_entries was.parts.entries) was.last in
    let absent = none_is _ (there_in was.total was.named live _ _ c.args.ledger false c.self.view_is c.put_back.ensures c.requires) in
    let room = inserted c.put_back.new.parts.entries c.insert.new.self.entries c.args.ledger 0 c.in_ok-insert.ensures.updates.0 in
    kept_back was.total was.remaining _ _
    (split_room (subst (IsSplit was.total was.remaining) (sym c.put_back.ensures) c.self.invariant.split) c.args.ledger absent) room

pub returns-clause-ok : goal.returns-clause-ok
returns-clause-ok c =
    let was = c.self.inside in
    let live = with_last (from_entries was.parts.entries) was.last in
    let absent = none_is _ (there_in was.total was.named live _ _ c.args.ledger false c.self.view_is c.put_back.ensures c.requires) in
    viewed_room _ _ (from_entries c.put_back.new.parts.entries) _ _ c.args.ledger
    (viewed_back was.total was.named live _ _ c.self.view_is c.put_back.ensures) absent
    (inserted c.put_back.new.parts.entries c.insert.new.self.entries c.args.ledger 0 c.in_ok-insert.ensures.updates.0)
