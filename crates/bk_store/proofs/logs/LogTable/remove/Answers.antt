use Rattle.std.proofs.Common.{ap, ◌∙◌}
use Rattle.std.specs.FinMap as map
use Rattle.bk_accounts.proofs.Maps.{removed}
use Rattle.bk_store.proofs.logs.LogTable.remove.Goals as goal

pub returns : goal.returns
returns g c =
    removed c.self.inside.logs.entries c.remove.new.self.entries c.args.id c.remove.ensures.updates.0
    ∙ ap (λ logs. map.remove logs c.args.id) c.self.view_is
