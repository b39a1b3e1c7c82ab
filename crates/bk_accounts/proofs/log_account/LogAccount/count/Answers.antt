use Rattle.std.proofs.Common.{◌≡◌, ◌+◌, ◌<◌, ◌^◌, Some, sym, subst, ap, ◌∙◌, arith}
use Rattle.std.specs.FinMap.{from_entries}
use Rattle.bk_accounts.specs.Account.{Account, with_size}
use Rattle.bk_accounts.specs.Parts.{AreKept, IsSplit, with_last}
use Rattle.bk_accounts.specs.declared.log_account.LogAccount.TheInside.{Inside}
use Rattle.bk_accounts.proofs.LogAccounts.{account_of}
use Rattle.bk_accounts.proofs.LastCounts.{kept_again, kept_next, last_fits, viewed_again, viewed_next, there_in}
use Rattle.bk_accounts.proofs.log_account.LogAccount.count.Goals as goal
use Rattle.bk_accounts.proofs.log_account.LogAccount.count.Goals.{in-Some, in_default}

pub overflow_add-self : goal.overflow_add-self
overflow_add-self c =
    let was = c.self.inside in
    let last : was.last ≡ Some (c.args.ledger, c.in-Some.more) = c.in-Some.is ∙ ap (λ n. Some (n, c.in-Some.more)) c.if-held-ledger.true in
    let fits = last_fits was.total was.remaining (from_entries was.parts.entries) c.args.ledger c.in-Some.more c.args.size
    (subst (AreKept was.total was.remaining (from_entries was.parts.entries)) last c.self.invariant)
    (omega (arith, ap (λ (a : Account). a.total) c.self.view_is, c.requires.fits)) in
    omega arith

pub invariant_of-self : goal.invariant_of-self
invariant_of-self c =
    let was = c.self.inside in
    let Kept : Inside → Type 0 = λ i. AreKept (i.total + c.args.size) (i.remaining + c.args.size) (from_entries i.parts.entries) i.last in
    let fits : was.total + c.args.size < 2 ^ 32 = omega (arith, ap (λ (a : Account). a.total) c.self.view_is, c.requires.fits) in
    elim c.match-self.branch [
      | in-Some w ↦
          let last : was.last ≡ Some (c.args.ledger, w.in-Some.more) = w.in-Some.is ∙ ap (λ n. Some (n, w.in-Some.more)) w.if-held-ledger.true in
          subst Kept (sym w.self-inside-is)
          (kept_again was.total was.remaining (from_entries was.parts.entries) c.args.ledger w.in-Some.more c.args.size
          (subst (AreKept was.total was.remaining (from_entries was.parts.entries)) last c.self.invariant) fits)
      | in_default w ↦
          let live = with_last (from_entries was.parts.entries) was.last in
          subst Kept (sym w.self-inside-is)
          (kept_next was.total was.remaining (from_entries w.put_back.new.parts.entries) c.args.ledger c.args.size
          (subst (IsSplit was.total was.remaining) (sym w.put_back.ensures) c.self.invariant.split)
          (there_in was.total was.named live _ _ c.args.ledger _ c.self.view_is w.put_back.ensures c.requires.ready) fits)
    ]

pub returns : goal.returns
returns c =
    let was = c.self.inside in
    let Seen : Inside → Type 0 = λ i. account_of (i.total + c.args.size) i.named (with_last (from_entries i.parts.entries) i.last)
    ≡ with_size c.args.ledger c.args.size c.args.self.now in
    elim c.match-self.branch [
      | in-Some w ↦
          let last : was.last ≡ Some (c.args.ledger, w.in-Some.more) = w.in-Some.is ∙ ap (λ n. Some (n, w.in-Some.more)) w.if-held-ledger.true in
          subst Seen (sym w.self-inside-is)
          (viewed_again was.total was.named (from_entries was.parts.entries) was.last _ c.args.ledger w.in-Some.more c.args.size c.self.view_is last)
      | in_default w ↦
          subst Seen (sym w.self-inside-is)
          (viewed_next was.total was.named (with_last (from_entries was.parts.entries) was.last) _ _ c.args.ledger c.args.size c.self.view_is w.put_back.ensures)
    ]
