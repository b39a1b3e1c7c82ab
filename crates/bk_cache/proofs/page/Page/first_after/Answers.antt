use Rattle.std.proofs.Common.{sym, ◌∙◌}
use Rattle.std.specs.Ordering.{is_lt}
use Rattle.bk_record.specs.Key.{key_cmp}
use Rattle.bk_cache.proofs.KeyPlaces.{after_key, after_gap}
use Rattle.bk_cache.proofs.PagePairs.{seen_first}
use Rattle.bk_cache.proofs.page.Page.first_after.Goals as goal

pub returns-in-Ok : goal.returns-in-Ok
returns-in-Ok c =
    let here = rw c.deref.ensures.value at c.in-Ok.ensures.found in
    let first = seen_first (λ p. p.value.items) _ (λ k. is_lt (key_cmp c.args.key.now k)) _ (after_key _ c.self.invariant c.args.key.now _ here) in
    c.at.ensures ∙ rw (← c.self.view_is) (sym first)

pub returns-in-Err : goal.returns-in-Err
returns-in-Err c =
    let gap = rw c.deref.ensures.value at c.in-Err.ensures.absent in
    let first = seen_first (λ p. p.value.items) _ (λ k. is_lt (key_cmp c.args.key.now k)) _ (after_gap _ c.self.invariant c.args.key.now _ gap) in
    c.at-in-Err.ensures ∙ rw (← c.self.view_is) (sym first)
