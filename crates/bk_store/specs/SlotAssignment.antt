-- Each log that is held has a slot of its own, and no other slot is occupied.
use Rattle.std.specs.Prelude.{◌≡◌, ℕ, Some, length}
use Rattle.std.specs.FinMap as finite
use Rattle.bk_lease.specs.declared.slot.Slot.{Slot}
use Rattle.bk_lease.specs.declared.slot.Slot.TheVariants as slots
use Rattle.bk_lease.specs.Leases.{state_at}
use Rattle.bk_lease.specs.Slots.{taken_count}
use Rattle.bk_lease.specs.Values.{SlotTable}
use Rattle.bk_store.specs.Logs.{Log, Logs}
use Rattle.bk_store.specs.declared.log.LogState.{LogState}
use Rattle.bk_store.specs.declared.log.LogState.TheVariants.{Writing, Filled, Copying, Readable, Retired, Closed}
use Rattle.bk_store.specs.declared.settings.Settings.{Settings}

-- the state of the slot of a log: leases are granted unless the log is Closed
abbrev pub slot_state : ℕ → LogState → Slot
slot_state id Writing = slots.Open id
slot_state id Filled = slots.Open id
slot_state id Copying = slots.Open id
slot_state id Readable = slots.Open id
slot_state id Retired = slots.Open id
slot_state id Closed = slots.Closed id

-- as many slots are occupied as logs are held, and the slot of each log has the state for the log
pub record AreSeated (keeper : SlotTable) (logs : Logs) : Type 0 where
  pub taken : taken_count keeper.slots ≡ finite.len logs
  pub stands : (id : ℕ) (log : Log) → finite.get logs id ≡ Some log → state_at keeper.slots log.slot ≡ slot_state id log.state

-- the table has as many slots as before, and allows as many leases per log
pub record IsSameTable (old new : SlotTable) : Type 0 where
  pub slots : length new.slots ≡ length old.slots
  pub most : new.most ≡ old.most

-- the table has the slots and the leases of the settings, and the logs have their slots in it
pub record IsSeated (settings : Settings) (keeper : SlotTable) (logs : Logs) : Type 0 where
  pub slots : length keeper.slots ≡ settings.slots
  pub most : keeper.most ≡ settings.leases
  pub seats : AreSeated keeper logs
