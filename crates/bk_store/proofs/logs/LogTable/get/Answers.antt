use Rattle.std.proofs.Common.{sym, ap, ◌∙◌}
use Rattle.std.specs.FinMap as map
use Rattle.bk_accounts.proofs.Maps.{get-found}
use Rattle.bk_store.proofs.logs.LogTable.get.Goals as goal

pub returns : goal.returns
returns g c = sym (ap (λ logs. map.get logs c.args.id) (sym c.self.view_is) ∙ get-found c.self.inside.logs.entries c.args.id _ c.get.ensures.value)
