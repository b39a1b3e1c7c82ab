use Rattle.std.proofs.Common.{◌<◌, sym, ap, subst, refl, ◌∙◌}
use Rattle.std.specs.FinMap as finite
use Rattle.bk_store.specs.State.{StoreParts}
use Rattle.bk_store.specs.Invariant.{StoreInvariant}
use Rattle.bk_store.proofs.MadeLogs.{not_open, reopened, slot_taken, slot_there, no_slot}
use Rattle.bk_store.proofs.fields.Fields.take_slot.Goals as goal

pub returns-in_default-list_written-clause-err : goal.returns-in_default-list_written-clause-err
returns-in_default-list_written-clause-err g c =
    no_slot _ c.args.self.now c.self.view_is c.list_written.new.filled.items _ _ c.args.state c.list_written.ensures.list refl refl

pub open-requires : goal.open-requires
open-requires g c = not_open _ (subst StoreInvariant (sym c.self.view_is) c.requires.keeps)

pub returns-in_default-open-clause-err : goal.returns-in_default-open-clause-err
returns-in_default-open-clause-err g c =
    no_slot _ c.args.self.now c.self.view_is c.list_written.new.filled.items c.open.new.self _ c.args.state c.list_written.ensures.list c.in_default-open.ensures.err refl

pub returns-in_default-insert-clause-err : goal.returns-in_default-insert-clause-err
returns-in_default-insert-clause-err g c =
    no_slot _ c.args.self.now c.self.view_is c.list_written.new.filled.items c.drop_log.new.self c.insert.new.self c.args.state c.list_written.ensures.list
    (reopened _ (subst StoreInvariant (sym c.self.view_is) c.requires.keeps) c.open.new.self c.drop_log.new.self c.in-Ok-open.ensures.ok c.drop_log.ensures)
    c.in_default-insert.ensures.err

pub returns-clause-ok : goal.returns-clause-ok
returns-clause-ok g c =
    slot_taken _ c.args.self.now c.self.view_is c.list_written.new.filled.items c.open.new.self c.insert.new.self c.args.state
    c.list_written.ensures.list c.in-Some.slot
    c.in-Ok-open.ensures.ok (c.in-Ok-insert.ensures.ok ∙ ap (finite.insert c.self.inside.logs c.self.inside.next) c.unmade.ensures)
    c.in-Ok.ensures.listed c.in-Some.ensures.free

pub unreachable-requires : goal.unreachable-requires
unreachable-requires g c =
    slot_there _ (subst StoreInvariant (sym c.self.view_is) c.requires.keeps)
    (subst (λ (p : StoreParts). finite.len p.state.logs < p.state.settings.slots) (sym c.self.view_is) c.requires.room) (c.in_default.ensures.full)
