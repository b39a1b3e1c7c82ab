use Rattle.std.proofs.Common.{◌≢◌, ℕ, ◌<◌, ◌≤◌}
use Rattle.bk_lease.specs.declared.slot.Slot.TheVariants.{Free}
use Rattle.bk_lease.specs.Leases.{state_at}
use Rattle.bk_lease.proofs.keeper.first_free.Given as goal

abbrev pub invariant-loop-slot : goal.invariant-loop-slot
invariant-loop-slot l = (slot : ℕ) → l.from ≤ slot → slot < l.slot → state_at l.slots slot ≢ Free
