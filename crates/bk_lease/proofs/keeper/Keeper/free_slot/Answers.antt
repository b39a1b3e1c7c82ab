use Rattle.std.proofs.Common.{◌≡◌, ℕ, List, length, ap, ◌∙◌, subst, arith, Option, Some, None, IfNone}
use Rattle.bk_lease.specs.declared.slot.Slot.{Slot}
use Rattle.bk_lease.specs.Slots.{taken_count}
use Rattle.bk_lease.specs.Values.{SlotTable}
use Rattle.bk_lease.proofs.Slots.{taken_count-all}
use Rattle.bk_lease.proofs.keeper.Keeper.free_slot.Goals as goal

none_gives : (found : Option ℕ) (P Q : Type 0) → (P → Q) → IfNone found P → IfNone found Q
none_gives None P Q gives told = gives told
none_gives (Some slot) P Q gives told = told

pub returns-clause-full : goal.returns-clause-full
returns-clause-full c = let as_seen : c.deref-2.result.now ≡ c.args.self.now.slots = c.deref-2.ensures.value ∙ ap (λ (t : SlotTable). t.slots) c.self.view_is in
    none_gives c.first_free-2.result _ _ (λ taken. subst (λ (slots : List Slot). taken_count slots ≡ length slots) as_seen
    (taken_count-all _ (λ i inside. taken i (omega arith) inside))) c.first_free-2.ensures.taken
