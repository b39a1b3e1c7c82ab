-- The states of all slots and the number of taken ones after a change of one slot, for the proofs
-- of callers.
use Rattle.std.proofs.Common.{◌≡◌, ◌≢◌, ℕ, zero, suc, ◌+◌, ◌<◌, List, [], ◌∷◌, length, set, replicate, sym, refl, ap, ◌∙◌, arith, lt_of_not-le}
use Rattle.std.proofs.Common.{get_or-set_same, get_or-set_other}
use Rattle.std.proofs.lemmas.List.{set-set, set-get_or}
use Rattle.std.proofs.Math.ListN.{get_or-eq_default}
use mathlib.Core.Logic.{dite}
use native.Mathlib.Decide.{dec_le}
use Rattle.bk_lease.specs.declared.slot.Slot.{Slot}
use Rattle.bk_lease.specs.declared.slot.Slot.TheVariants.{Free, Open, Closed}
use Rattle.bk_lease.specs.Leases.{state_at, log_at, IsOpen}
use Rattle.bk_lease.specs.Slots.{taken_of, taken_count}
use Rattle.bk_lease.specs.Values.{SlotTable, with_state, with_closed}

-- a slot that is not free is one of the slots
pub inside_slots : (slots : List Slot) (i : ℕ) (state : Slot) → state_at slots i ≡ state → state ≢ Free → i < length slots
inside_slots slots i state is taken =
    dite (dec_le (length slots) i) (λ past. absurd (taken (sym is ∙ get_or-eq_default slots Free past))) (λ within. lt_of_not-le within)

pub taken_count-replicate : (n : ℕ) → taken_count (replicate n Free) ≡ 0
taken_count-replicate zero = refl
taken_count-replicate (suc n) = let rest = taken_count-replicate n in omega arith

-- changing one slot changes the count by the difference
pub taken_count-set : (slots : List Slot) (i : ℕ) (state : Slot) → i < length slots
    → taken_count (set slots i state) + taken_of (state_at slots i) ≡ taken_count slots + taken_of state
taken_count-set [] i state inside = absurd (omega arith)
taken_count-set (s ∷ states) zero state inside = omega arith
taken_count-set (s ∷ states) (suc i) state inside = let rest = taken_count-set states i state (omega arith) in omega arith

taken_of-one : (state : Slot) → state ≢ Free → taken_of state ≡ 1
taken_of-one Free taken = absurd (taken refl)
taken_of-one (Open log) taken = refl
taken_of-one (Closed log) taken = refl

-- if no slot is free, all are taken
pub taken_count-all : (slots : List Slot) → ((i : ℕ) → i < length slots → state_at slots i ≢ Free) → taken_count slots ≡ length slots
taken_count-all [] taken = refl
taken_count-all (s ∷ states) taken = let first = taken_of-one s (taken 0 (omega arith)) in
    let rest = taken_count-all states (λ i inside. taken (suc i) (omega arith)) in omega arith

pub state_at-set_here : (slots : List Slot) (i : ℕ) (state : Slot) → i < length slots → state_at (set slots i state) i ≡ state
state_at-set_here slots i state inside = get_or-set_same slots i state Free inside

pub state_at-set_else : (slots : List Slot) (i j : ℕ) (state : Slot) → j ≢ i → state_at (set slots i state) j ≡ state_at slots j
state_at-set_else slots i j state other = get_or-set_other slots i j state Free other

-- two logs are not in the same slot
pub other_slot : (slots : List Slot) (i j : ℕ) (a b : ℕ) → a ≢ b → log_at slots i ≡ a → log_at slots j ≡ b → i ≢ j
other_slot slots i j a b apart first second same = apart (sym first ∙ ap (log_at slots) same ∙ second)

-- closing a slot and opening it again for the same log restores it
pub with_closed-opened : (keeper : SlotTable) (slot : ℕ) → IsOpen keeper.slots slot
    → with_state (with_closed keeper slot) slot (Open (log_at keeper.slots slot)) ≡ keeper
with_closed-opened keeper slot is = let log : ℕ = log_at keeper.slots slot in
    let back : set (set keeper.slots slot (Closed log)) slot (Open log) ≡ keeper.slots =
    set-set keeper.slots slot (Closed log) (Open log) ∙ ap (set keeper.slots slot) (sym is) ∙ set-get_or keeper.slots slot Free in
    λ j. record keeper { slots = back j }
