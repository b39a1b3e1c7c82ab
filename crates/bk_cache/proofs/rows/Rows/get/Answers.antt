use Rattle.std.proofs.Common.{◌∙◌}
use Rattle.bk_cache.proofs.RowCache.{found_there}
use Rattle.bk_cache.proofs.rows.Rows.get.Goals as goal

pub returns-in_err-page : goal.returns-in_err-page
returns-in_err-page c =
    let there = found_there c.self.inside.pages.entries c.self.invariant c.args.key.now c.page_of.result c.page_of.ensures _ c.in_err-page.ensures.value in
    rw (c.from_residual.ensures, ← c.self.view_is) there

pub returns : goal.returns
returns c =
    let there = found_there c.self.inside.pages.entries c.self.invariant c.args.key.now c.page_of.result c.page_of.ensures _ c.in_ok-page.ensures.value in
    c.get-2.ensures ∙ rw (← c.self.view_is) there
