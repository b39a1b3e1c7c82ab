-- The states of a keeper's slots: which are free, and how many are taken.
use Rattle.std.specs.Prelude.{◌≡◌, ℕ, ◌+◌, ◌<◌, List, [], ◌∷◌, length}
use Rattle.bk_lease.specs.declared.slot.Slot.{Slot}
use Rattle.bk_lease.specs.declared.slot.Slot.TheVariants.{Free, Open, Closed}
use Rattle.bk_lease.specs.Leases.{state_at}

-- 1 for a slot that has a log
abbrev pub taken_of : Slot → ℕ
taken_of Free = 0
taken_of (Open log) = 1
taken_of (Closed log) = 1

-- number of slots that have a log
abbrev pub taken_count : List Slot → ℕ
taken_count [] = 0
taken_count (state ∷ states) = taken_of state + taken_count states

-- the slot exists and is free
abbrev pub IsFree : List Slot → ℕ → Type 0
IsFree slots slot = (slot < length slots) × (state_at slots slot ≡ Free)
