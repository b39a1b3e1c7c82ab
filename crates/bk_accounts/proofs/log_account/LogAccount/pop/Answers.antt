use Rattle.std.proofs.Common.{is_some, unwrap_or, ap, sym, subst, ◌∙◌, arith}
use Rattle.std.specs.FinMap.{get, from_entries}
use Rattle.bk_accounts.specs.Parts.{IsSplit, with_last}
use Rattle.bk_accounts.proofs.LogAccounts.{part-le, split_forget, viewed_forget}
use Rattle.bk_accounts.proofs.LastCounts.{kept_back, viewed_back}
use Rattle.bk_accounts.proofs.Maps.{get-nothing, get-found, removed}
use mathlib.Core.Bool.{false≢true}
use Rattle.bk_accounts.proofs.log_account.LogAccount.pop.Goals as goal

pub returns-in_err-ledger-clause-none : goal.returns-in_err-ledger-clause-none
returns-in_err-ledger-clause-none c =
    let was = c.self.inside in
    let view_is = viewed_back was.total was.named (with_last (from_entries was.parts.entries) was.last) _ _ c.self.view_is c.put_back.ensures in
    rw c.from_residual.ensures (λ ledger.
    sym (ap (λ a. is_some (get a.live ledger)) view_is)
    ∙ ap is_some (get-nothing c.put_back.new.parts.entries ledger (λ more. absurd (false≢true (c.in_err-ledger.ensures.variant.1 more)))))

pub overflow_sub-self : goal.overflow_sub-self
overflow_sub-self c =
    let was = c.self.inside in
    let split = subst (IsSplit was.total was.remaining) (sym c.put_back.ensures) c.self.invariant.split in
    let part = ap (λ o. unwrap_or o 0) (get-found c.put_back.new.parts.entries c.in_ok-ledger.ledger _ (sym c.in_ok-ledger.ensures.value)) in
    omega (arith, part-le split c.in_ok-ledger.ledger, part)

pub invariant_of-self-2 : goal.invariant_of-self-2
invariant_of-self-2 c =
    let was = c.self.inside in
    let split = subst (IsSplit was.total was.remaining) (sym c.put_back.ensures) c.self.invariant.split in
    let part = ap (λ o. unwrap_or o 0) (get-found c.put_back.new.parts.entries c.in_ok-ledger.ledger _ (sym c.in_ok-ledger.ensures.value)) in
    let gone = removed c.put_back.new.parts.entries c.pop_first.new.self.entries c.in_ok-ledger.ledger c.in_ok-ledger.ensures.updates.0 in
    kept_back was.total _ _ _ (split_forget split c.in_ok-ledger.ledger c.in_ok-ledger.part part) gone

pub returns-clause-some : goal.returns-clause-some
returns-clause-some c =
    let was = c.self.inside in
    let view_is = viewed_back was.total was.named (with_last (from_entries was.parts.entries) was.last) _ _ c.self.view_is c.put_back.ensures in
    let there = ap is_some (get-found c.put_back.new.parts.entries c.in_ok-ledger.ledger _ (sym c.in_ok-ledger.ensures.value)) in (
      sym (ap (λ a. is_some (get a.live c.in_ok-ledger.ledger)) view_is) ∙ there,
      viewed_forget _ _ (from_entries c.put_back.new.parts.entries) _ _ c.in_ok-ledger.ledger view_is
          (removed c.put_back.new.parts.entries c.pop_first.new.self.entries c.in_ok-ledger.ledger c.in_ok-ledger.ensures.updates.0),
    )
