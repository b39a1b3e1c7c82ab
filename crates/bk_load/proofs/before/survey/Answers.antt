use Rattle.std.proofs.Common.{◌<◌, Bool, IsTrue, sym, subst}
use Rattle.std.specs.List.{All}
use Rattle.std.specs.FinMap as map
use Rattle.bk_record.specs.Keyed.{Places}
use Rattle.bk_load.proofs.Ledgers.{opened_past}
use Rattle.bk_load.proofs.before.survey.Goals as goal

pub returns : goal.returns
returns g c = λ honest.
    let listed = c.in_ok-logs.ensures in
    opened_past _ _ _ c.args.settings c.in-Ok.store c.before_of-before.result.first (subst (λ (b : Bool). IsTrue b) (sym listed.honest) honest)
    (listed.same honest) c.in-Ok.ensures.opened
    (subst (λ (index : Places). All (λ e. e.0.ledger < c.before_of-before.result.first) (map.entries index)) c.index.ensures c.before_of-before.ensures)
