use Rattle.std.proofs.Common.{refl, sym, ap, ◌∙◌}
use Rattle.std.specs.Ordering.{is_lt}
use Rattle.bk_record.specs.Key.{key_cmp}
use Rattle.bk_cache.proofs.RowCache.{first_in_page, first_past_page}
use Rattle.bk_cache.proofs.rows.Rows.first_after.Goals as goal

-- there is no page of the key
pub returns-in_default : goal.returns-in_default
returns-in_default c =
    let past = first_past_page c.self.inside.pages.entries c.self.invariant c.args.key.now c.page_of-number.result c.page_of-number.ensures _ c.in_default.ensures.value
    (λ k. is_lt (key_cmp c.args.key.now k)) (λ k is. ap is_lt is) (λ k is. ap is_lt is) refl in
    c.first_behind.ensures ∙ rw (← c.self.view_is) (sym past)

pub returns-in-Some-first_after : goal.returns-in-Some-first_after
returns-in-Some-first_after c = rw (← c.self.view_is)
    (first_in_page c.self.inside.pages.entries c.self.invariant c.args.key.now c.page_of-number.result c.page_of-number.ensures _ c.in-Some.ensures.value
    (λ k. is_lt (key_cmp c.args.key.now k)) (λ k is. ap is_lt is) (λ k is. ap is_lt is) _ c.in-Some-first_after.ensures)

-- the page of the key has no such pair
pub returns-in-None : goal.returns-in-None
returns-in-None c =
    let past = first_past_page c.self.inside.pages.entries c.self.invariant c.args.key.now c.page_of-number.result c.page_of-number.ensures _ c.in-Some.ensures.value
    (λ k. is_lt (key_cmp c.args.key.now k)) (λ k is. ap is_lt is) (λ k is. ap is_lt is) c.in-None.ensures in
    c.first_behind-in-None.ensures ∙ rw (← c.self.view_is) (sym past)
