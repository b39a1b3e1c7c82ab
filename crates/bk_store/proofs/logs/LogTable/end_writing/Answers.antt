use Rattle.std.proofs.Common.{◌≡◌, Some, sym, ap, ◌∙◌}
use Rattle.std.specs.FinMap as map
use Rattle.bk_store.specs.Logs.{unwritten_log}
use Rattle.bk_store.proofs.Tables.{is_lent, lent_at, changed_at}
use Rattle.bk_store.proofs.logs.LogTable.end_writing.Goals as goal

pub unwrap-requires : goal.unwrap-requires
unwrap-requires g c = is_lent c.self.inside.logs c.args.self.now c.args.id c.self.view_is c.get_mut.result c.get_mut.ensures.value c.requires

pub returns-clause-logs : goal.returns-clause-logs
returns-clause-logs g c = λ log held.
    let found = lent_at c.self.inside.logs c.args.self.now c.args.id c.self.view_is c.get_mut.result c.unwrap.result c.get_mut.ensures.value c.unwrap.ensures in
    let both : Some c.unwrap.result.now ≡ Some log = sym found ∙ held in
    let same : c.unwrap.result.now ≡ log = cc in
    changed_at c.self.inside.logs c.args.self.now c.args.id c.self.view_is (c.get_mut.follows.lender c.end_writing.new.self) c.end_writing.new.self
    (c.get_mut.follows.holds c.end_writing.new.self) c.requires
    ∙ ap (map.insert c.args.self.now c.args.id) (c.end_writing.ensures.log ∙ ap (unwritten_log c.args.state) same)

pub returns-clause-writer : goal.returns-clause-writer
returns-clause-writer g c = λ log held.
    let found = lent_at c.self.inside.logs c.args.self.now c.args.id c.self.view_is c.get_mut.result c.unwrap.result c.get_mut.ensures.value c.unwrap.ensures in
    let both : Some c.unwrap.result.now ≡ Some log = sym found ∙ held in
    let same : c.unwrap.result.now ≡ log = cc in
    c.end_writing.ensures.writer ∙ ap (λ l. l.writer) same
