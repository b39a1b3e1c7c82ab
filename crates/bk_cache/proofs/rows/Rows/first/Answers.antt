use Rattle.std.proofs.Common.{sym, ◌∙◌}
use Rattle.bk_cache.proofs.RowCache.{first_paged}
use Rattle.bk_cache.proofs.rows.Rows.first.Goals as goal

pub returns : goal.returns
returns c =
    c.first.ensures ∙ rw (← c.self.view_is) (sym (first_paged c.self.inside.pages.entries c.self.invariant _ c.in_ok-page.ensures.first))
