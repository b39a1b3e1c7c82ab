-- The leases that readers hold. Each is open in the store's table, and none is on a closed or
-- removed log.
use Rattle.std.specs.Prelude.{◌≡◌, ◌⊎◌, ℕ, true, List, [], ◌∷◌, Option}
use Rattle.bk_lease.specs.declared.slot.Slot.TheVariants.{Open, Closed}
use Rattle.bk_lease.specs.Leases.{state_at}
use Rattle.bk_lease.specs.Values.{SlotTable}
use Rattle.bk_store.specs.State.{State}
use Rattle.bk_store.specs.Frame.{IsRemovedLog}
use Rattle.bk_drive.specs.Abstract.{HasAt}
use Rattle.bk_drive.specs.Machine.{ReaderLease, ClosesOrRemoves}
use Rattle.bk_drive.specs.declared.step.Step.{Step}
use Rattle.bk_drive.specs.declared.step.Answer.{Answer}

-- The lease is from this table and not yet released, and its slot is open for its log.
pub record IsOpenLease (keeper : SlotTable) (hold : ReaderLease) : Type 0 where
  pub table : hold.ticket.table ≡ keeper.table
  pub held : hold.ticket.is_held ≡ true
  pub opened : state_at keeper.slots hold.ticket.slot ≡ Open hold.ticket.log

-- Every lease that a reader holds is open.
abbrev pub AreOpenLeases : SlotTable → List (Option ReaderLease) → Type 0
AreOpenLeases keeper readers = (reader : ℕ) (hold : ReaderLease) → HasAt readers reader hold → IsOpenLease keeper hold

-- The log is closed in a slot of the table.
abbrev pub IsClosedInTable : SlotTable → ℕ → Type 0
IsClosedInTable keeper log = (slot : ℕ) × (state_at keeper.slots slot ≡ Closed log)

-- No lease on the log is granted any more: it is closed, or it is removed.
abbrev pub IsClosedOrRemoved : State → ℕ → Type 0
IsClosedOrRemoved s log = IsClosedInTable s.keeper log ⊎ IsRemovedLog s log

-- One of the steps asked to close or remove the log, and its answer was Closed or Removed.
abbrev pub WasClosedOrRemoved : List Step → List Answer → ℕ → Type 0
WasClosedOrRemoved [] as' log = ⊥
WasClosedOrRemoved (s ∷ ss) [] log = ⊥
WasClosedOrRemoved (s ∷ ss) (a ∷ as') log = ClosesOrRemoves s a log ⊎ WasClosedOrRemoved ss as' log
