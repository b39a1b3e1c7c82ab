-- The atomic steps on a slot's word: the value that each finds, and the view of the seat after it.
-- Read `pin_step` and `close_step` first.
use Rattle.std.specs.Prelude.{◌≡◌, ◌≢◌, ℕ, ◌+◌, ◌%◌, ◌^◌, ◌<◌, ◌≤◌, ◌==◌, if◌then◌else◌, List, slice_set, Option, Some, None, Result, Ok, Err}
use mathlib.Core.Option.{none}
use Rattle.atomic_table.specs.Table.{Me, Step, step}
use Rattle.bk_lease.specs.declared.slot.Slot.{Slot}
use Rattle.bk_lease.specs.declared.slot.Slot.TheVariants.{Free, Open, Closed}
use Rattle.bk_lease.specs.declared.rule.Pin.{Pin}
use Rattle.bk_lease.specs.declared.rule.Register.{Register}
use Rattle.bk_lease.specs.declared.rule.Role.{Role}
use Rattle.bk_lease.specs.declared.rule.Role.TheVariants.{Keeper, Held, Spent}
use Rattle.bk_lease.specs.Leases.{state_at, held_on, open_word, closed_word, RuledBy}

-- a seat as the table sees it: its view, and the places of the table that it took (none here)
abbrev pub SeatView : Type 0
SeatView = Me (Unit {0}) Role

-- a step on a word, with its arguments
abbrev pub OneStep : Type 0
OneStep = Step (Unit {0})

-- register with one slot in this state
abbrev pub with_slot : Register → ℕ → Slot → Register
with_slot register slot state = record register { slots = slice_set register.slots slot state }

-- register with this pin under way
abbrev pub with_pending : Register → Option Pin → Register
with_pending register pending = record register { pending = pending }

-- register after its pin became a seat: no pin is under way, and one more seat was created
abbrev pub with_granted : Register → Register
with_granted register = record register { pending = None; given = register.given + 1 }

-- pin on this slot, which found this number of seats
abbrev pub pin_on : ℕ → ℕ → Pin
pin_on slot met = record { slot = slot; met = met }

-- a keeper's view that has the slot open for this log, and no pin under way
abbrev pub IsOpenFor : SeatView → ℕ → ℕ → Type 0
IsOpenFor me slot log = (register : Register) × (me.0 ≡ Keeper register) × (state_at register.slots slot ≡ Open log) × (register.pending ≡ None)

-- the same for some log
abbrev pub IsIdleOn : SeatView → ℕ → Type 0
IsIdleOn me slot = (log : ℕ) × IsOpenFor me slot log

-- the keeper's register changes by `next`; all else is unchanged
abbrev pub Advances : SeatView → SeatView → (Register → Register) → Type 0
Advances me me' next = (register : Register) → me.0 ≡ Keeper register → me' ≡ (Keeper (next register), me.1)

-- at a slot that the keeper has as open, the relation holds of the register and the slot's log
abbrev pub OnOpen : OneStep → SeatView → (Register → ℕ → Type 0) → Type 0
OnOpen made me tells = (register : Register) (log : ℕ) → me.0 ≡ Keeper register → state_at register.slots made.word ≡ Open log → tells register log

-- the rule allows this number of seats on the slot for the keeper's register
abbrev pub Meets : Register → ℕ → ℕ → Type 0
Meets register slot held = (words : List ℕ) × (views : List Role) × RuledBy register words views × (held_on slot views ≡ held)

-- the word found counts `met` seats on this open slot
abbrev pub CountsSeats : Register → ℕ → ℕ → ℕ → ℕ → Type 0
CountsSeats register slot log found met = (found ≡ open_word log met) × (met ≤ register.most) × Meets register slot met

-- open: the slot is open for the log whose word was stored
abbrev pub open_step : OneStep → SeatView → ℕ → SeatView → Type 0
open_step made me found me' = (log : ℕ) → made.first ≡ open_word log 0 → Advances me me' (λ register. with_slot register made.word (Open log))

-- pin: a pin is under way, which found the number of seats in the word
abbrev pub pin_step : OneStep → SeatView → ℕ → SeatView → Type 0
pin_step made me found me' = OnOpen made me (λ register log.
    (met : ℕ) × CountsSeats register made.word log found met × (me' ≡ (Keeper (with_pending register (Some (pin_on made.word met))), me.1)))

-- the operation of a pin: one lease is added to the word
abbrev pub pin_made : ℕ → ℕ → OneStep
pin_made slots slot = step slots slot 1 0 none

-- undo: no pin is under way
abbrev pub undo_step : OneStep → SeatView → ℕ → SeatView → Type 0
undo_step made me found me' = Advances me me' (λ register. with_pending register None)

-- split, for the keeper: the pin became a seat
abbrev pub split_keeper_step : Role → Role
split_keeper_step (Keeper register) = Keeper (with_granted register)
split_keeper_step (Held slot) = Held slot
split_keeper_step Spent = Spent

-- view of the seat that a pin becomes: it holds the pin's slot
abbrev pub role_by : Option Pin → Role
role_by (Some pin) = Held pin.slot
role_by None = Spent

-- split, for the new seat: it holds the slot of the pin that was under way
abbrev pub split_seat_step : Role → Role
split_seat_step (Keeper register) = role_by register.pending
split_seat_step (Held slot) = Spent
split_seat_step Spent = Spent

-- release: the seat is spent
abbrev pub release_step : OneStep → SeatView → ℕ → SeatView → Type 0
release_step made me found me' = me' ≡ (Spent, me.1)

-- close: if the word was the expected one, no seat holds the slot, and it is closed; otherwise some
-- seat does, and nothing changes
abbrev pub close_step : OneStep → SeatView → ℕ → SeatView → Type 0
close_step made me found me' = OnOpen made me (λ register log.
    (found ≡ made.first → (me' ≡ (Keeper (with_slot register made.word (Closed log)), me.1)) × Meets register made.word 0)
    × (found ≢ made.first → (me' ≡ me) × ((met : ℕ) × (0 < met) × CountsSeats register made.word log found met)))

-- the operation of a close: the word of a slot without leases becomes that of a closed one
abbrev pub close_made : ℕ → ℕ → ℕ → OneStep
close_made slots slot log = step slots slot (open_word log 0) (closed_word log) none

-- its answer: the count in the word that it found, if the slot was not closed
abbrev pub close_result : ℕ → ℕ → Result (Unit {0}) ℕ
close_result log found = if found == open_word log 0 then Ok tt else Err (found % 2 ^ 32)

-- count: nothing changes
abbrev pub count_step : OneStep → SeatView → ℕ → SeatView → Type 0
count_step made me found me' = (me' ≡ me) × OnOpen made me (λ register log. (met : ℕ) × CountsSeats register made.word log found met)

-- the operation of a count: the word is read
abbrev pub count_made : ℕ → ℕ → OneStep
count_made slots slot = step slots slot 0 0 none

-- free: the slot is free
abbrev pub free_step : OneStep → SeatView → ℕ → SeatView → Type 0
free_step made me found me' = Advances me me' (λ register. with_slot register made.word Free)

-- meet: joins a keeper that has closed a slot with a seat that holds it, and spends both; this case
-- does not exist
abbrev pub met : Role
met = Spent

-- a step that no seat can make
abbrev pub no_step : OneStep → SeatView → ℕ → SeatView → Type 0
no_step made me found me' = ⊥
