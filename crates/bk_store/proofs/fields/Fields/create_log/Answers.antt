use Rattle.std.proofs.Common.{Some, Err, refl, sym, ap, subst, ◌∙◌, is_some}
use Rattle.std.specs.FinMap as finite
use Rattle.bk_store.specs.State.{StoreParts}
use Rattle.bk_store.specs.Logs.{log_without_records}
use Rattle.bk_store.specs.Internals.{HasSlot, CreateLogInternals, DurableNeverShrinks, with_durable_of}
use Rattle.bk_store.specs.Primitives.{CreateLogTransition, logs_left, keeper_left}
use Rattle.bk_store.proofs.MadeLogs.{slot_held, slot_gone, slot_left, seat_kept, seat_opened, gone_beside, left_beside, written_slot, slot_kept}
use Rattle.bk_store.proofs.MadeLogs.{made_turn, made_beside, refused_turn}
use Rattle.bk_store.proofs.fields.Fields.create_log.Goals as goal
use Rattle.bk_store.proofs.fields.Fields.create_log.Goals.{then-fault, else-fault}

pub start-requires-after_bounds : goal.start-requires-after_bounds
start-requires-after_bounds g c κs within =
    let slot = subst (λ (q : StoreParts). HasSlot c.args.self.now c.args.state c.in_ok-slot.slot q) (sym c.self.view_is) c.in_ok-slot.ensures.ok in
    ap is_some (slot_held c.args.self.now _ c.args.state c.in_ok-slot.slot slot)

pub returns-in-Ok-clause-transition : goal.returns-in-Ok-clause-transition
returns-in-Ok-clause-transition g c =
    let slot = subst (λ (q : StoreParts). HasSlot c.args.self.now c.args.state c.in_ok-slot.slot q) (sym c.self.view_is) c.in_ok-slot.ensures.ok in
    made_turn c.args.self.now _ c.args.state c.in_ok-slot.slot slot _ _ _ c.start.new.self c.open.new.self c.in-Ok.ensures.honest c.in_ok-can_create_log.ensures
    c.in-Ok.ensures.cause (λ wrong. wrong)
    (c.start.ensures (log_without_records c.in_ok-slot.slot) (slot_held c.args.self.now _ c.args.state c.in_ok-slot.slot slot)
    ∙ ap (λ w. finite.insert c.self.inside.logs c.self.inside.next (record (log_without_records c.in_ok-slot.slot) { state = c.args.state; writer = Some w }))
    c.in-Ok.ensures.ok)
    c.open.ensures c.in-Ok.ensures.transition

pub returns-in-Ok-clause-internals : goal.returns-in-Ok-clause-internals
returns-in-Ok-clause-internals g c =
    let slot = subst (λ (q : StoreParts). HasSlot c.args.self.now c.args.state c.in_ok-slot.slot q) (sym c.self.view_is) c.in_ok-slot.ensures.ok in
    made_beside c.args.self.now _ c.args.state c.in_ok-slot.slot slot _ _ _ c.start.new.self c.open.new.self c.in-Ok.ensures.honest _ _ _
    (c.start.ensures (log_without_records c.in_ok-slot.slot) (slot_held c.args.self.now _ c.args.state c.in_ok-slot.slot slot)
    ∙ ap (λ w. finite.insert c.self.inside.logs c.self.inside.next (record (log_without_records c.in_ok-slot.slot) { state = c.args.state; writer = Some w }))
    c.in-Ok.ensures.ok)
    (written_slot c.args.self.now _ c.args.state c.in_ok-slot.slot slot _ c.written_after-self-inside.ensures)

pub returns-after-fault-clause-transition : goal.returns-after-fault-clause-transition
returns-after-fault-clause-transition g c =
    let slot = subst (λ (q : StoreParts). HasSlot c.args.self.now c.args.state c.in_ok-slot.slot q) (sym c.self.view_is) c.in_ok-slot.ensures.ok in
    elim c.if-fault.branch [
      | then-fault w ↦
          subst (λ (q : StoreParts). CreateLogTransition c.args.self.now.state c.args.state (Err c.from.result) q.state) (sym w.self-is)
          (refused_turn c.args.self.now _ c.args.state c.in_ok-slot.slot slot _ _ _ c.self.inside.logs w.open-then-fault.new.self c.in-Err.ensures.honest
          c.requires.keeps c.in_ok-can_create_log.ensures c.in-Err.fault.made
          (slot_left c.args.self.now _ c.args.state c.in_ok-slot.slot slot ∙ ap (λ b. logs_left c.args.self.now.state b c.in_ok-slot.slot) (sym w.if-fault.true))
          (seat_opened c.args.self.now _ c.args.state c.in_ok-slot.slot slot w.open-then-fault.new.self w.open-then-fault.ensures
          ∙ ap (λ b. keeper_left c.args.self.now.state b c.in_ok-slot.slot) (sym w.if-fault.true))
          c.in-Err.fault.fault c.from.result c.from.ensures c.in-Err.ensures.cause c.in-Err.ensures.transition)
      | else-fault w ↦
          subst (λ (q : StoreParts). CreateLogTransition c.args.self.now.state c.args.state (Err c.from.result) q.state) (sym w.self-is)
          (refused_turn c.args.self.now _ c.args.state c.in_ok-slot.slot slot _ _ _ w.remove.new.self c.self.inside.keeper c.in-Err.ensures.honest
          c.requires.keeps c.in_ok-can_create_log.ensures c.in-Err.fault.made
          (slot_gone c.args.self.now _ c.args.state c.in_ok-slot.slot slot c.requires.keeps w.remove.new.self w.remove.ensures
          ∙ ap (λ b. logs_left c.args.self.now.state b c.in_ok-slot.slot) (sym w.if-fault.false))
          (seat_kept c.args.self.now _ c.args.state c.in_ok-slot.slot slot ∙ ap (λ b. keeper_left c.args.self.now.state b c.in_ok-slot.slot) (sym w.if-fault.false))
          c.in-Err.fault.fault c.from.result c.from.ensures c.in-Err.ensures.cause c.in-Err.ensures.transition)
    ]

pub returns-after-fault-clause-internals : goal.returns-after-fault-clause-internals
returns-after-fault-clause-internals g c =
    let slot = subst (λ (q : StoreParts). HasSlot c.args.self.now c.args.state c.in_ok-slot.slot q) (sym c.self.view_is) c.in_ok-slot.ensures.ok in
    elim c.if-fault.branch [
      | then-fault w ↦
          subst (λ (q : StoreParts). CreateLogInternals (with_durable_of c.args.self.now q) c.args.state (Err c.from.result) q) (sym w.self-is)
          (left_beside c.args.self.now _ c.args.state c.in_ok-slot.slot slot _ _ _ c.from.result refl)
      | else-fault w ↦
          subst (λ (q : StoreParts). CreateLogInternals (with_durable_of c.args.self.now q) c.args.state (Err c.from.result) q) (sym w.self-is)
          (gone_beside c.args.self.now _ c.args.state c.in_ok-slot.slot slot c.requires.keeps _ w.drop_log.new.self _ _ c.from.result
          (slot_gone c.args.self.now _ c.args.state c.in_ok-slot.slot slot c.requires.keeps w.remove.new.self w.remove.ensures) w.drop_log.ensures)
    ]

pub returns-in-Ok-clause-durable : goal.returns-in-Ok-clause-durable
returns-in-Ok-clause-durable g c =
    let slot = subst (λ (q : StoreParts). HasSlot c.args.self.now c.args.state c.in_ok-slot.slot q) (sym c.self.view_is) c.in_ok-slot.ensures.ok in
    slot_kept c.args.self.now _ c.args.state c.in_ok-slot.slot slot _ _ c.in-Ok.ensures.durable

pub returns-after-fault-clause-durable : goal.returns-after-fault-clause-durable
returns-after-fault-clause-durable g c =
    let slot = subst (λ (q : StoreParts). HasSlot c.args.self.now c.args.state c.in_ok-slot.slot q) (sym c.self.view_is) c.in_ok-slot.ensures.ok in
    elim c.if-fault.branch [
      | then-fault w ↦
          subst (λ (q : StoreParts). DurableNeverShrinks c.args.self.now q) (sym w.self-is)
          (slot_kept c.args.self.now _ c.args.state c.in_ok-slot.slot slot _ _ c.in-Err.ensures.durable)
      | else-fault w ↦
          subst (λ (q : StoreParts). DurableNeverShrinks c.args.self.now q) (sym w.self-is)
          (slot_kept c.args.self.now _ c.args.state c.in_ok-slot.slot slot _ _ c.in-Err.ensures.durable)
    ]
