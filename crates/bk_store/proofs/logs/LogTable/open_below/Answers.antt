use Rattle.std.proofs.Common.{◌+◌, Some, None, sym, subst, ◌∙◌, arith}
use Rattle.std.proofs.lemmas.Option.{same_Some}
use Rattle.bk_store.proofs.Shutting.{IsReopening, reopening_ends, reopening_on, reopening_past, reopen_within}
use Rattle.bk_store.proofs.logs.LogTable.open_below.Goals as goal
use Rattle.bk_store.proofs.logs.LogTable.open_below.Goals.{in-Some-lent_slot, in_default-lent_slot}

pub returns-then-id-end : goal.returns-then-id-end
returns-then-id-end g c =
    reopening_ends c.loop-id.invariant (Some c.in-Some.id) c.in-Some.ensures
    (λ id is. let same = same_Some c.in-Some.id id is in let past = c.if-id-end.true in omega (arith, same, past))

pub open-requires-clause-slot : goal.open-requires-clause-slot
open-requires-clause-slot g c =
    reopen_within c.loop-id.invariant c.in-Some.id c.in-Some.ensures (omega (arith, c.if-id-end.false)) c.in-Some-lent_slot.slot
    (sym c.lent_slot.ensures ∙ c.in-Some-lent_slot.is) c.requires.shut

pub loop-id-preserved : goal.loop-id-preserved
loop-id-preserved g c = elim c.match-lent_slot.branch [
  | in-Some-lent_slot w ↦
      reopening_on c.loop-id.invariant c.in-Some.id c.in-Some.ensures (omega (arith, c.if-id-end.false)) w.in-Some-lent_slot.slot c.match-lent_slot.keeper
      (sym c.lent_slot.ensures ∙ w.in-Some-lent_slot.is) (w.keeper-is ∙ w.open.ensures)
  | in_default-lent_slot w ↦
      subst (λ k. IsReopening c.args.self.now c.args.keeper.now k (c.in-Some.id + 1) c.args.end) (sym w.keeper-is)
      (reopening_past c.loop-id.invariant c.in-Some.id c.in-Some.ensures (omega (arith, c.if-id-end.false))
      (sym c.lent_slot.ensures ∙ w.in_default-lent_slot.is))
]

pub returns : goal.returns
returns g c = reopening_ends c.loop-id.invariant None c.in_default.ensures (λ id wrong. absurd (cc))
