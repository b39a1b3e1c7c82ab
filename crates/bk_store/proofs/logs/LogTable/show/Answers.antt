use Rattle.std.proofs.Common.{◌≡◌, Some, sym, ap, ◌∙◌}
use Rattle.std.specs.FinMap as map
use Rattle.bk_store.specs.Logs.{with_view, view_of}
use Rattle.bk_store.proofs.Tables.{is_lent, lent_at, changed_at}
use Rattle.bk_store.proofs.logs.LogTable.show.Goals as goal

pub unwrap-requires : goal.unwrap-requires
unwrap-requires g c = is_lent c.self.inside.logs c.args.self.now c.args.id c.self.view_is c.get_mut.result c.get_mut.ensures.value c.requires

pub returns : goal.returns
returns g c = λ log held.
    let found = lent_at c.self.inside.logs c.args.self.now c.args.id c.self.view_is c.get_mut.result c.unwrap.result c.get_mut.ensures.value c.unwrap.ensures in
    let both : Some c.unwrap.result.now ≡ Some log = sym found ∙ held in
    let same : c.unwrap.result.now ≡ log = cc in
    changed_at c.self.inside.logs c.args.self.now c.args.id c.self.view_is (c.get_mut.follows.lender c.show.new.self) c.show.new.self
    (c.get_mut.follows.holds c.show.new.self) c.requires
    ∙ ap (map.insert c.args.self.now c.args.id)
    (c.show.ensures ∙ ap (with_view (view_of g.V.LogView.bytes g.V.LogView.honest g.V.LogView.sound c.args.view.value)) same)
