use Rattle.std.proofs.Common.{◌+◌, sym, subst, ◌∙◌}
use Rattle.bk_store.proofs.Shutting.{IsShutting, close_open, refused_here, refused_lowest, shutting_on, shutting_past}
use Rattle.bk_store.proofs.logs.LogTable.close_all.Goals as goal
use Rattle.bk_store.proofs.logs.LogTable.close_all.Goals.{in-Some-lent_slot+in_default-close, in_default-lent_slot}

pub close-requires : goal.close-requires
close-requires g c =
    close_open c.args.self.now c.args.keeper.now c.requires.seated c.loop-id.invariant c.in-Some.id c.in-Some.ensures c.in-Some-lent_slot.slot
    (sym c.lent_slot.ensures ∙ c.in-Some-lent_slot.is)

pub open_below-requires-clause-shut : goal.open_below-requires-clause-shut
open_below-requires-clause-shut g c κs within = (
  c.args.keeper.now,
  c.requires.seated,
  refused_here c.args.self.now c.args.keeper.now c.requires.seated c.loop-id.invariant c.in-Some.id c.in-Some.ensures c.in-Some-lent_slot.slot
      (sym c.lent_slot.ensures ∙ c.in-Some-lent_slot.is) c.close.new.self c.in-Err.field-0.count c.in-Err.ensures.err,
)

pub returns-in-Err-clause-some : goal.returns-in-Err-clause-some
returns-in-Err-clause-some g c =
    refused_lowest c.args.self.now c.args.keeper.now c.requires.seated c.loop-id.invariant c.in-Some.id c.in-Some.ensures c.in-Some-lent_slot.slot
    (sym c.lent_slot.ensures ∙ c.in-Some-lent_slot.is) c.close.new.self c.in-Err.field-0.count c.in-Err.ensures.err
    c.in-Err.ensures.leased c.in-Err.ensures.met

pub returns-in-Err-clause-same : goal.returns-in-Err-clause-same
returns-in-Err-clause-same g c =
    c.open_below.ensures c.args.keeper.now c.requires.seated
    (refused_here c.args.self.now c.args.keeper.now c.requires.seated c.loop-id.invariant c.in-Some.id c.in-Some.ensures c.in-Some-lent_slot.slot
    (sym c.lent_slot.ensures ∙ c.in-Some-lent_slot.is) c.close.new.self c.in-Err.field-0.count c.in-Err.ensures.err)

pub loop-id-preserved : goal.loop-id-preserved
loop-id-preserved g c = elim c.match-lent_slot.branch [
  | in-Some-lent_slot+in_default-close w ↦
      shutting_on c.args.self.now c.args.keeper.now c.requires.seated c.loop-id.invariant c.in-Some.id c.in-Some.ensures w.in-Some-lent_slot.slot
      (sym c.lent_slot.ensures ∙ w.in-Some-lent_slot.is) c.match-lent_slot.keeper (c.requires.ids c.in-Some.id c.in-Some.ensures.0)
      (w.keeper-is ∙ w.in_default-close.ensures.closed) w.in_default-close.ensures.unleased
  | in_default-lent_slot w ↦
      subst (λ k. IsShutting c.args.self.now c.args.keeper.now k (c.in-Some.id + 1)) (sym w.keeper-is)
      (shutting_past c.args.self.now c.args.keeper.now c.requires.seated c.loop-id.invariant c.in-Some.id c.in-Some.ensures
      (sym c.lent_slot.ensures ∙ w.in_default-lent_slot.is))
]
