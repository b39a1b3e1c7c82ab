use Rattle.std.proofs.Common.{ap, ◌∙◌}
use Rattle.std.specs.FinMap as map
use Rattle.bk_accounts.proofs.Maps.{inserted}
use Rattle.bk_store.proofs.logs.LogTable.insert.Goals as goal

pub returns-clause-ok : goal.returns-clause-ok
returns-clause-ok g c =
    inserted c.self.inside.logs.entries c.insert.new.self.entries c.args.id c.args.log c.in_ok-insert.ensures.updates.0
    ∙ ap (λ logs. map.insert logs c.args.id c.args.log) c.self.view_is
