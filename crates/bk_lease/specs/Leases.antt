-- The lease rule: the state of a slot, the number of seats that hold it, and therefore its word.
-- Read `IsRuled` first, at the end. Each step of any thread preserves it (project rule).
use Rattle.std.specs.Prelude.{◌≡◌, ℕ, ◌+◌, ◌*◌, ◌^◌, ◌<◌, ◌≤◌, ◌==◌, if◌then◌else◌, List, [], ◌∷◌, length, replicate, slice_index, slice_index_or}
use Rattle.std.specs.Prelude.{Option, Some, None}
use mathlib.Core.Option.{some}
use lib.ListN.{get_elem?}
use Rattle.bk_lease.specs.declared.slot.Slot.{Slot}
use Rattle.bk_lease.specs.declared.slot.Slot.TheVariants.{Free, Open, Closed}
use Rattle.bk_lease.specs.declared.rule.Pin.{Pin}
use Rattle.bk_lease.specs.declared.rule.Register.{Register}
use Rattle.bk_lease.specs.declared.rule.Role.{Role}
use Rattle.bk_lease.specs.declared.rule.Role.TheVariants.{Keeper, Held, Spent}
use Rattle.bk_lease.specs.declared.rule.Room.{Room}

-- STATE OF A SLOT

-- state of a slot, `Free` past the last slot
abbrev pub state_at : List Slot → ℕ → Slot
state_at slots slot = slice_index_or slots slot Free

-- log of a slot in this state, 0 if free
abbrev pub log_of : Slot → ℕ
log_of Free = 0
log_of (Open log) = log
log_of (Closed log) = log

-- log of a slot
abbrev pub log_at : List Slot → ℕ → ℕ
log_at slots slot = log_of (state_at slots slot)

-- the slot is open: leases of its log can be granted
abbrev pub IsOpen : List Slot → ℕ → Type 0
IsOpen slots slot = state_at slots slot ≡ Open (log_at slots slot)

-- the slot is closed: its log has no outstanding lease
abbrev pub IsClosed : List Slot → ℕ → Type 0
IsClosed slots slot = state_at slots slot ≡ Closed (log_at slots slot)

-- the slot can be opened: it is free or closed
abbrev pub MayOpen : Slot → Type 0
MayOpen Free = Unit {0}
MayOpen (Open log) = ⊥
MayOpen (Closed log) = Unit {0}

-- NUMBER OF SEATS THAT HOLD IT

-- 1 if a seat with this view holds the slot
abbrev pub hold_of : ℕ → Role → ℕ
hold_of slot (Keeper register) = 0
hold_of slot (Held other) = if other == slot then 1 else 0
hold_of slot Spent = 0

-- number of seats that hold the slot
abbrev pub held_on : ℕ → List Role → ℕ
held_on slot [] = 0
held_on slot (view ∷ views) = hold_of slot view + held_on slot views

-- 1 if the pin under way is on the slot
abbrev pub pending_on : ℕ → Option Pin → ℕ
pending_on slot None = 0
pending_on slot (Some pin) = if pin.slot == slot then 1 else 0

-- ITS WORD

-- word of an open slot: its log from bit 32 on, and below it its number of leases
abbrev pub open_word : ℕ → ℕ → ℕ
open_word log count = log * 2 ^ 32 + count

-- word of a closed slot: bit 63, and its log
abbrev pub closed_word : ℕ → ℕ
closed_word log = 2 ^ 63 + log * 2 ^ 32

-- word of a slot in this state with this number of leases; only an open slot has any
abbrev pub WordIs : Slot → ℕ → ℕ → Type 0
WordIs Free count word = (count ≡ 0) × (word ≡ 0)
WordIs (Open log) count word = (log < 2 ^ 31) × (word ≡ open_word log count)
WordIs (Closed log) count word = (log < 2 ^ 31) × (count ≡ 0) × (word ≡ closed_word log)

-- THE RULE

-- at most as many seats hold the slot as the pin under way found: since then seats were only
-- released
abbrev pub IsWithinMet : ℕ → Option Pin → ℕ → Type 0
IsWithinMet slot None held = Unit {0}
IsWithinMet slot (Some pin) held = pin.slot ≡ slot → held ≤ pin.met

-- Rule of one slot: relates its word to the number of seats that hold it. The pin under way counts
-- as a seat.
pub record SlotRuled (register : Register) (slot word held : ℕ) : Type 0 where
  pub word_is : WordIs (state_at register.slots slot) (held + pending_on slot register.pending) word
  pub within : held ≤ register.most
  pub met : IsWithinMet slot register.pending held

-- Rule of all slots, for the keeper's view. The keeper has the first seat, no other seat is a
-- keeper's, and all other seats were created by its pins. So only the keeper creates seats, and no
-- other step changes the slot of a seat.
pub record RuledBy (register : Register) (words : List ℕ) (views : List Role) : Type 0 where
  pub keeper : get_elem? views 0 ≡ some (Keeper register)
  pub alone : (seat : ℕ) (other : Register) → get_elem? views seat ≡ some (Keeper other) → seat ≡ 0
  pub sized : length register.slots ≡ length words
  pub counted : length views ≡ register.given + 1
  pub bounded : register.most < 2 ^ 16
  pub each_slot : (slot : ℕ) → SlotRuled register slot (slice_index words slot) (held_on slot views)

-- the lease rule
abbrev pub IsRuled : List ℕ → List Role → Type 0
IsRuled words views = (register : Register) × RuledBy register words views

-- view of the keeper at the start: all slots are free, no pin is under way, and no seat was created
abbrev pub first_register : Room → Register
first_register room = record { slots = replicate room.slots Free; pending = None; most = room.most; given = 0 }

-- view of the first seat
abbrev pub first_role : Room → Role
first_role room = Keeper (first_register room)
