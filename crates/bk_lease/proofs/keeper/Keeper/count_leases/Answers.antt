use Rattle.std.proofs.Common.{◌∙◌, subst}
use Rattle.bk_lease.specs.Values.{SlotTable, AllowsCountIn}
use Rattle.bk_lease.specs.Leases.{state_at}
use Rattle.bk_lease.proofs.LeaseCounts.{one_more_below}
use Rattle.bk_lease.proofs.keeper.Keeper.count_leases.Goals as goal

pub loop-slot-preserved : goal.loop-slot-preserved
loop-slot-preserved c = let same = c.loop-slot.invariant.unchanged in let here = c.leases_on.ensures in record {
  unchanged = here.unchanged ∙ same;
  below = one_more_below _ _ _ _ _ c.saturating_add-total.ensures c.loop-slot.invariant.below
      (subst (λ (t : SlotTable). AllowsCountIn t c.loop-slot.slot (state_at t.slots c.loop-slot.slot) c.leases_on.result) same here.count);
}
