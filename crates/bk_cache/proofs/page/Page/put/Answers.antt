use Rattle.std.proofs.Common.{ap, ◌∙◌, refl, is_some}
use Rattle.std.proofs.lemmas.Result.{err_from_is_err_and}
use Rattle.bk_cache.proofs.Seen.{seen}
use Rattle.bk_cache.proofs.PagePairs.{seen_some, seen_absent, seen_put, sorted_put}
use Rattle.bk_cache.proofs.page.Page.put.Goals as goal

-- an allocation failed
pub returns-in_err-insert-in-Err : goal.returns-in_err-insert-in-Err
returns-in_err-insert-in-Err c =
    let told = err_from_is_err_and c.from_residual.result c.from_residual.ensures.1 in
    let gap = rw c.deref.ensures.value at c.in-Err.ensures.absent in
    rw (told.1, ← c.self.view_is)
    (seen_absent (λ p. p.value.items) _ c.self.invariant c.args.key _ gap, ap (seen (λ p. p.value.items)) c.in_err-insert-in-Err.ensures.items)

pub invariant_of-self-in-Err : goal.invariant_of-self-in-Err
invariant_of-self-in-Err c =
    let gap = rw c.deref.ensures.value at c.in-Err.ensures.absent in
    rw c.in_ok-insert-in-Err.ensures.items (sorted_put (λ p. p.value.items) _ c.self.invariant c.args.key _ c.args.payload gap)

-- the page has the key
pub returns-in-Ok : goal.returns-in-Ok
returns-in-Ok c =
    let here = rw c.deref.ensures.value at c.in-Ok.ensures.found in
    let held = seen_some (λ p. p.value.items) _ c.self.invariant c.args.key _ here in
    (rw (← c.self.view_is) (ap is_some held.1), refl)

pub returns-in_ok-insert-in-Err : goal.returns-in_ok-insert-in-Err
returns-in_ok-insert-in-Err c =
    let gap = rw c.deref.ensures.value at c.in-Err.ensures.absent in
    rw (← c.self.view_is) (
      seen_absent (λ p. p.value.items) _ c.self.invariant c.args.key _ gap,
      ap (seen (λ p. p.value.items)) c.in_ok-insert-in-Err.ensures.items ∙ seen_put (λ p. p.value.items) _ c.self.invariant c.args.key _ c.args.payload gap,
    )
