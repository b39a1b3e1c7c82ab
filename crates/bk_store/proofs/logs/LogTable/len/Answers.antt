use Rattle.std.proofs.Common.{sym, ap, ◌∙◌}
use Rattle.std.specs.FinMap as map
use Rattle.bk_store.proofs.Tables.{len-table}
use Rattle.bk_store.proofs.logs.LogTable.len.Goals as goal

pub returns : goal.returns
returns g c = c.len.ensures.len ∙ sym (len-table c.self.inside.logs.entries c.len.ensures.ordered) ∙ ap map.len c.self.view_is
