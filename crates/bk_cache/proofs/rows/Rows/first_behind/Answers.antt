use Rattle.std.proofs.Common.{sym, ◌∙◌}
use Rattle.bk_cache.proofs.RowCache.{none_behind, first_behind}
use Rattle.bk_cache.proofs.rows.Rows.first_behind.Goals as goal

pub returns-in_err-page : goal.returns-in_err-page
returns-in_err-page c =
    let none = none_behind c.self.inside.pages.entries c.self.invariant c.args.number c.range.result (c.range.ensures.between tt) c.in_err-page.ensures.steps.0 in
    rw (c.from_residual.ensures, ← c.self.view_is) (sym none)

pub returns : goal.returns
returns c =
    let first = first_behind c.self.inside.pages.entries c.self.invariant c.args.number c.range.result (c.range.ensures.between tt) _ _ c.in_ok-page.ensures.steps in
    c.first.ensures ∙ rw (← c.self.view_is) (sym first)
