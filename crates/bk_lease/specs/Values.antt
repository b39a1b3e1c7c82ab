-- Specification values of a keeper, a seat and a lease (`SlotTable`, `Ticket`, `LeasedView`), and
-- the type invariants.
use Rattle.std.specs.Prelude.{◌≡◌, ℕ, ◌+◌, ◌-◌, ◌^◌, ◌<◌, min, Bool, true, false, List, [], length, slice_index, slice_set, sum, Option, Some, None}
use Rattle.atomic_table.specs.Seated.{TableId}
use Rattle.atomic_table.specs.declared.shared.Seat.{Seat}
use Rattle.bk_lease.specs.declared.slot.Slot.{Slot}
use Rattle.bk_lease.specs.declared.slot.Slot.TheVariants.{Free, Open, Closed}
use Rattle.bk_lease.specs.declared.rule.Register.{Register}
use Rattle.bk_lease.specs.declared.rule.Role.{Role}
use Rattle.bk_lease.specs.declared.rule.Role.TheVariants.{Keeper, Held, Spent}
use Rattle.bk_lease.specs.Leases.{state_at, log_at, IsClosed}
use Rattle.bk_lease.specs.Steps.{SeatView, Meets}

-- KEEPER

-- table, state of each slot, greatest number of leases per slot, number of seats created
pub record SlotTable : Type 0 where
  pub table : TableId
  pub slots : List Slot
  pub most : ℕ
  pub given : ℕ

-- keeper with one slot in this state
abbrev pub with_state : SlotTable → ℕ → Slot → SlotTable
with_state keeper slot state = record keeper { slots = slice_set keeper.slots slot state }

-- keeper with an open slot closed
abbrev pub with_closed : SlotTable → ℕ → SlotTable
with_closed keeper slot = with_state keeper slot (Closed (log_at keeper.slots slot))

-- keeper after it created one more seat
abbrev pub with_given : SlotTable → SlotTable
with_given keeper = record keeper { given = keeper.given + 1 }

-- view of a keeper between two calls: no pin is under way
abbrev pub register_at_rest : List Slot → ℕ → ℕ → Register
register_at_rest slots most given = record { slots = slots; pending = None; most = most; given = given }

-- number of seats created, in the keeper's view
abbrev pub given_in : Role → ℕ
given_in (Keeper register) = register.given
given_in (Held slot) = 0
given_in Spent = 0

-- the lease rule allows this number of seats on the slot for the keeper's view
abbrev pub AllowsLeaseCount : SlotTable → ℕ → ℕ → Type 0
AllowsLeaseCount keeper slot count = Meets (register_at_rest keeper.slots keeper.most keeper.given) slot count

-- the same of a slot in this state: only an open slot has leases
abbrev pub AllowsCountIn : SlotTable → ℕ → Slot → ℕ → Type 0
AllowsCountIn keeper slot Free count = count ≡ 0
AllowsCountIn keeper slot (Open log) count = AllowsLeaseCount keeper slot count
AllowsCountIn keeper slot (Closed log) count = count ≡ 0

-- the total is the sum of one number for each slot, which the lease rule allows of that slot, and at
-- most 2^64 - 1
pub record CountsLeases (keeper : SlotTable) (total : ℕ) : Type 0 where
  pub counts : List ℕ
  pub one_each : length counts ≡ length keeper.slots
  pub allowed : (slot : ℕ) → AllowsCountIn keeper slot (state_at keeper.slots slot) (slice_index counts slot)
  pub sum_is : total ≡ min (sum counts) (2 ^ 64 - 1)

-- type invariant of `Keeper`: its seat is the first of the table, and its view has these slots
pub record IsAtRest (seat : Seat (Unit {0}) Role) (table : TableId) (slots : List Slot) (most : ℕ) : Type 0 where
  pub seated : seat.table_id ≡ table
  pub first : seat.id ≡ 0
  pub knows : seat.me ≡ (Keeper (register_at_rest slots most (given_in seat.me.0)), [])
  pub sized : length slots ≡ table.words
  pub logs_fit : (slot : ℕ) → log_at slots slot < 2 ^ 31

-- SEAT

-- table and number there, slot, log at the pin, and whether it holds the slot
pub record Ticket : Type 0 where
  pub table : TableId
  pub seat : ℕ
  pub slot : ℕ
  pub log : ℕ
  pub is_held : Bool

-- ticket of a seat that holds its slot
abbrev pub held_ticket : TableId → ℕ → ℕ → ℕ → Ticket
held_ticket table seat slot log = record { table = table; seat = seat; slot = slot; log = log; is_held = true }

-- ticket of the seat of this number, created for an open slot of the keeper
abbrev pub new_ticket : SlotTable → ℕ → ℕ → Ticket
new_ticket keeper slot seat = held_ticket keeper.table seat slot (log_at keeper.slots slot)

-- ticket of a seat that has released its slot
abbrev pub spent_ticket : Ticket → Ticket
spent_ticket ticket = record ticket { is_held = false }

-- whether a seat with this view holds its slot
abbrev pub is_held : Role → Bool
is_held (Keeper register) = false
is_held (Held slot) = true
is_held Spent = false

-- view of a seat of this slot, which holds it or is spent
abbrev pub role_of : Bool → ℕ → Role
role_of true slot = Held slot
role_of false slot = Spent

-- type invariant of `LeaseSeat`: it is a seat of this table, and holds the slot or is spent
pub record IsSeatOf (seat : Seat (Unit {0}) Role) (table : TableId) (slot : ℕ) : Type 0 where
  pub seated : seat.table_id ≡ table
  pub knows : seat.me ≡ (role_of (is_held seat.me.0) slot, [])
  pub inside : slot < table.words

-- the seat's place in the table is unchanged
abbrev pub IsSameSeat : Seat (Unit {0}) Role → Seat (Unit {0}) Role → Type 0
IsSameSeat old new = (new.table_id ≡ old.table_id) × (new.id ≡ old.id)

-- the view is a keeper's, with this slot closed
abbrev pub HasClosed : SeatView → ℕ → Type 0
HasClosed me slot = (register : Register) × (me ≡ (Keeper register, [])) × IsClosed register.slots slot

-- LEASE

-- placeholder if there is no ticket
abbrev pub no_ticket : Ticket
no_ticket =
    let no_table : TableId = record { words = 0; slots = 0; views_name = 0; atom = 0; block = 0; offset = 0; slot_names = [] } in
    record { table = no_table; seat = 0; slot = 0; log = 0; is_held = false }

-- ticket of the seat in a lease
abbrev pub ticket_in : Option Ticket → Ticket
ticket_in (Some ticket) = ticket
ticket_in None = no_ticket

-- type invariant of `Lease`: it has a seat that holds its slot
abbrev pub KeepsHeld : Option Ticket → Type 0
KeepsHeld seat = (ticket : Ticket) × (seat ≡ Some ticket) × (ticket.is_held ≡ true)

-- ticket of its seat, and the value that the lease shows
pub record LeasedView (V : Type 0) : Type 0 where
  pub ticket : Ticket
  pub view : V
