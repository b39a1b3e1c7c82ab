use Rattle.std.proofs.Common.{◌≡◌, Some, sym, ap, ◌∙◌}
use Rattle.std.specs.FinMap as map
use Rattle.bk_store.specs.Appending.{put_log}
use Rattle.bk_store.proofs.Tables.{is_lent, lent_at, changed_at}
use Rattle.bk_store.proofs.logs.LogTable.put.Goals as goal

pub unwrap-requires : goal.unwrap-requires
unwrap-requires g c = is_lent c.self.inside.logs c.args.self.now c.args.id c.self.view_is c.get_mut.result c.get_mut.ensures.value c.requires.held

pub put-requires-clause-may : goal.put-requires-clause-may
put-requires-clause-may g c = λ κs lives. c.requires.may c.unwrap.result.now
    (lent_at c.self.inside.logs c.args.self.now c.args.id c.self.view_is c.get_mut.result c.unwrap.result c.get_mut.ensures.value c.unwrap.ensures)

pub put-requires-clause-writes : goal.put-requires-clause-writes
put-requires-clause-writes g c = λ κs lives w. c.requires.writes c.unwrap.result.now w
    (lent_at c.self.inside.logs c.args.self.now c.args.id c.self.view_is c.get_mut.result c.unwrap.result c.get_mut.ensures.value c.unwrap.ensures)

pub returns-clause-logs : goal.returns-clause-logs
returns-clause-logs g c = λ log w held writes.
    let found = lent_at c.self.inside.logs c.args.self.now c.args.id c.self.view_is c.get_mut.result c.unwrap.result c.get_mut.ensures.value c.unwrap.ensures in
    let both : Some c.unwrap.result.now ≡ Some log = sym found ∙ held in
    let same : c.unwrap.result.now ≡ log = cc in
    changed_at c.self.inside.logs c.args.self.now c.args.id c.self.view_is (c.get_mut.follows.lender c.put.new.self) c.put.new.self
    (c.get_mut.follows.holds c.put.new.self) c.requires.held
    ∙ ap (map.insert c.args.self.now c.args.id)
    (c.put.ensures.log w (ap (λ l. l.writer) same ∙ writes) ∙ ap (λ l. put_log l w c.args.payload.now c.put.result) same)

pub returns-clause-place : goal.returns-clause-place
returns-clause-place g c = λ log w held writes.
    let found = lent_at c.self.inside.logs c.args.self.now c.args.id c.self.view_is c.get_mut.result c.unwrap.result c.get_mut.ensures.value c.unwrap.ensures in
    let both : Some c.unwrap.result.now ≡ Some log = sym found ∙ held in
    let same : c.unwrap.result.now ≡ log = cc in
    c.put.ensures.place w (ap (λ l. l.writer) same ∙ writes)

pub returns-clause-transition : goal.returns-clause-transition
returns-clause-transition g c = λ log w held writes.
    let found = lent_at c.self.inside.logs c.args.self.now c.args.id c.self.view_is c.get_mut.result c.unwrap.result c.get_mut.ensures.value c.unwrap.ensures in
    let both : Some c.unwrap.result.now ≡ Some log = sym found ∙ held in
    let same : c.unwrap.result.now ≡ log = cc in
    c.put.ensures.transition w (ap (λ l. l.writer) same ∙ writes)
