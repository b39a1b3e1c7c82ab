use Rattle.std.proofs.Common.{◌≡◌, Some, sym, ap, ◌∙◌}
use Rattle.std.specs.FinMap as map
use Rattle.bk_store.specs.Logs.{Log}
use Rattle.bk_store.proofs.Tables.{is_lent, lent_at, changed_at}
use Rattle.bk_store.proofs.logs.LogTable.start.Goals as goal

pub unwrap-requires : goal.unwrap-requires
unwrap-requires g c = is_lent c.self.inside.logs c.args.self.now c.args.id c.self.view_is c.get_mut.result c.get_mut.ensures.value c.requires

pub returns : goal.returns
returns g c = λ log held.
    let found = lent_at c.self.inside.logs c.args.self.now c.args.id c.self.view_is c.get_mut.result c.unwrap.result c.get_mut.ensures.value c.unwrap.ensures in
    let both : Some c.unwrap.result.now ≡ Some log = sym found ∙ held in
    let same : c.unwrap.result.now ≡ log = cc in
    changed_at c.self.inside.logs c.args.self.now c.args.id c.self.view_is (c.get_mut.follows.lender c.start.new.self) c.start.new.self
    (c.get_mut.follows.holds c.start.new.self) c.requires
    ∙ ap (map.insert c.args.self.now c.args.id) (c.start.ensures ∙ ap {A = Log} (λ l. record l { state = c.args.state; writer = Some c.args.writer }) same)
