-- Leases of the logs of a store, and the transition that closes a log to them. Other threads return
-- leases at any time, so the number of leases is that at one moment, as the lease rule allows it
-- with the table of the store.
use Rattle.std.specs.Prelude.{◌≡◌, ℕ, ◌<◌, ◌≤◌, length, true, Option, Some, None, Result, Ok, Err}
use Rattle.std.specs.Option.{option_and_then}
use Rattle.std.specs.FinMap as finite
use Rattle.bk_lease.specs.declared.slot.Slot.TheVariants as slots
use Rattle.bk_lease.specs.declared.answers.Leased.{Leased}
use Rattle.bk_lease.specs.Leases.{state_at}
use Rattle.bk_lease.specs.Values.{SlotTable, Ticket, AllowsLeaseCount, held_ticket, with_state}
use Rattle.bk_store.specs.Logs.{View, Log, Logs, unwritten_log, is_open}
use Rattle.bk_store.specs.State.{State}
use Rattle.bk_store.specs.declared.log.LogState.{LogState}
use Rattle.bk_store.specs.declared.log.LogState.TheVariants.{Writing, Filled, Copying, Readable, Retired, Closed}

-- ---- number of leases of a log

-- a log that is held had this many leases at one moment
pub record HasLeaseCount (keeper : SlotTable) (logs : Logs) (id count : ℕ) : Type 0 where
  pub log : Log
  pub held : finite.get logs id ≡ Some log
  pub met : AllowsLeaseCount keeper log.slot count

-- a log had leases: this many, at least one
pub record IsLeased (keeper : SlotTable) (logs : Logs) (id count : ℕ) : Type 0 where
  pub some : 0 < count
  pub most : count ≤ keeper.most
  pub met : HasLeaseCount keeper logs id count

-- the ticket of a lease holds the slot of this log, which is held and open, in the table of the
-- store; the lease has the last view of the log; and the log had fewer leases than one log may have
pub record IsLeaseOf (keeper : SlotTable) (logs : Logs) (id : ℕ) (ticket : Ticket) (view : View) : Type 0 where
  pub log : Log
  pub held : finite.get logs id ≡ Some log
  pub opened : is_open log.state ≡ true
  pub view_is : log.view ≡ Some view
  pub ticket_is : ticket ≡ held_ticket keeper.table ticket.seat log.slot id
  pub room : (met : ℕ) × (met < keeper.most) × HasLeaseCount keeper logs id met

-- ---- closing a log

-- the state with a log closed, and its slot too
abbrev pub with_closed_log : State → ℕ → Log → State
with_closed_log s id log = record s {
  logs = finite.insert s.logs id (unwritten_log Closed log);
  keeper = with_state s.keeper log.slot (slots.Closed id);
}

-- A log is closed if no lease of it is out; otherwise the number of leases is returned and nothing
-- changes.
abbrev pub CloseLogTransition : State → ℕ → Result (Unit {0}) Leased → State → Type 0
CloseLogTransition s id (Ok _) t = HasLeaseCount s.keeper s.logs id 0 × ((log : Log) × (finite.get s.logs id ≡ Some log) × (t ≡ with_closed_log s id log))
CloseLogTransition s id (Err leased) t = IsLeased s.keeper s.logs id leased.count × (t ≡ s)

-- ---- closing all logs

-- a log of this id is held, and is not closed to leases
pub record IsOpenToLeases (logs : Logs) (id : ℕ) : Type 0 where
  pub log : Log
  pub held : finite.get logs id ≡ Some log
  pub open_is : ¬ (log.state ≡ Closed)

-- the slot of a log in this state, none if it is closed to leases
abbrev pub slot_lent : LogState → ℕ → Option ℕ
slot_lent Writing slot = Some slot
slot_lent Filled slot = Some slot
slot_lent Copying slot = Some slot
slot_lent Readable slot = Some slot
slot_lent Retired slot = Some slot
slot_lent Closed slot = None

-- the slot of the log of this id, none if it is not held or is closed to leases
abbrev pub lent_slot : Logs → ℕ → Option ℕ
lent_slot logs id = option_and_then (λ log. slot_lent log.state log.slot) (finite.get logs id)

-- no lease is out of the logs below this id
abbrev pub HaveNoLeases : SlotTable → Logs → ℕ → Type 0
HaveNoLeases keeper logs end = (id : ℕ) → id < end → IsOpenToLeases logs id → HasLeaseCount keeper logs id 0

-- the lowest log with leases, and their number
pub record IsLowestLeased (keeper : SlotTable) (logs : Logs) (id count : ℕ) : Type 0 where
  pub lent : IsOpenToLeases logs id
  pub leased : IsLeased keeper logs id count
  pub lowest : HaveNoLeases keeper logs id

-- The slots of the logs with ids from `first` to below `end` are closed in the second table, if
-- they are not closed in the first; every other slot is unchanged.
pub record AreClosedToLeases (logs : Logs) (old new : SlotTable) (first end : ℕ) : Type 0 where
  pub same : new ≡ record old { slots = new.slots }
  pub long : length new.slots ≡ length old.slots
  pub shut : (id : ℕ) (log : Log) → finite.get logs id ≡ Some log → first ≤ id → id < end → state_at new.slots log.slot ≡ slots.Closed id
  pub else_as : (slot : ℕ) → ((id : ℕ) (log : Log) → finite.get logs id ≡ Some log → first ≤ id → id < end → ¬ (log.slot ≡ slot))
      → state_at new.slots slot ≡ state_at old.slots slot
