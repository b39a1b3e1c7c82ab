use Rattle.std.proofs.Common.{unwrap_or, ap, ◌∙◌, sym, subst, arith}
use Rattle.std.specs.FinMap.{from_entries}
use Rattle.bk_accounts.specs.Parts.{IsSplit, with_last}
use Rattle.bk_accounts.proofs.LogAccounts.{part-le, split_forget, viewed_forget}
use Rattle.bk_accounts.proofs.LastCounts.{kept_back, viewed_back}
use Rattle.bk_accounts.proofs.Maps.{get-found, removed}
use Rattle.bk_accounts.proofs.log_account.LogAccount.forget.Goals as goal

pub overflow_sub-self : goal.overflow_sub-self
overflow_sub-self c =
    let was = c.self.inside in
    let split = subst (IsSplit was.total was.remaining) (sym c.put_back.ensures) c.self.invariant.split in
    let part = ap (λ o. unwrap_or o 0) (get-found c.put_back.new.parts.entries c.args.ledger _ c.remove.ensures.value ∙ c.in-Some.is) in
    omega (arith, part-le split c.args.ledger, part)

pub invariant_of-self : goal.invariant_of-self
invariant_of-self c =
    let was = c.self.inside in
    let split = subst (IsSplit was.total was.remaining) (sym c.put_back.ensures) c.self.invariant.split in
    let part = ap (λ o. unwrap_or o 0) (get-found c.put_back.new.parts.entries c.args.ledger _ c.remove.ensures.value ∙ c.in-Some.is) in
    let gone = removed c.put_back.new.parts.entries c.remove.new.self.entries c.args.ledger c.remove.ensures.updates.0 in
    kept_back was.total _ _ _ (split_forget split c.args.ledger c.in-Some.part part) gone

pub returns-in-Some : goal.returns-in-Some
returns-in-Some c =
    let was = c.self.inside in
    viewed_forget _ _ (from_entries c.put_back.new.parts.entries) _ _ c.args.ledger
    (viewed_back was.total was.named (with_last (from_entries was.parts.entries) was.last) _ _ c.self.view_is c.put_back.ensures)
    (removed c.put_back.new.parts.entries c.remove.new.self.entries c.args.ledger c.remove.ensures.updates.0)

pub returns-in_default : goal.returns-in_default
returns-in_default c =
    let was = c.self.inside in
    viewed_forget _ _ (from_entries c.put_back.new.parts.entries) _ _ c.args.ledger
    (viewed_back was.total was.named (with_last (from_entries was.parts.entries) was.last) _ _ c.self.view_is c.put_back.ensures)
    (removed c.put_back.new.parts.entries c.remove.new.self.entries c.args.ledger c.remove.ensures.updates.0)
