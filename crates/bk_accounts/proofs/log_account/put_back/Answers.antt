use Rattle.std.proofs.Common.{◌+◌, unwrap_or, ap, ◌∙◌, sym, arith}
use Rattle.std.specs.Option.{is_some, option_copied_mut}
use Rattle.std.specs.FinMap.{insert, from_entries}
use Rattle.bk_accounts.proofs.Maps.{get-entries, get-found, lent, written}
use Rattle.bk_accounts.proofs.log_account.put_back.Goals as goal

-- the ledger has room among the parts
pub unwrap-part-requires : goal.unwrap-part-requires
unwrap-part-requires c =
    let has = rw c.in-Some.is at c.requires in
    lent c.get_mut.result _ c.get_mut.ensures.value (ap is_some (sym (get-entries c.args.parts.now.entries c.in-Some.ledger)) ∙ has.there)

pub overflow_add-part : goal.overflow_add-part
overflow_add-part c =
    let has = rw c.in-Some.is at c.requires in
    let found = get-found c.args.parts.now.entries c.in-Some.ledger _ c.get_mut.ensures.value ∙ ap option_copied_mut c.unwrap-part.ensures in
    omega (arith, has.fits, ap (λ o. unwrap_or o 0) found)

pub returns-in-Some : goal.returns-in-Some
returns-in-Some c =
    let found = get-found c.args.parts.now.entries c.in-Some.ledger _ c.get_mut.ensures.value ∙ ap option_copied_mut c.unwrap-part.ensures in
    let part = c.unwrap-part.result.now in
    let counted = written c.args.parts.now (c.get_mut.follows.lender (part + c.in-Some.more)) c.in-Some.ledger (part + c.in-Some.more)
    (c.get_mut.follows.holds (part + c.in-Some.more)) (ap is_some found) in
    rw c.in-Some.is
    (counted ∙ ap (λ o. insert (from_entries c.args.parts.now.entries) c.in-Some.ledger (unwrap_or o 0 + c.in-Some.more)) (sym found))
