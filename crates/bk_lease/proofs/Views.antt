-- Views of seats, and how many of them hold a slot.
use Rattle.std.proofs.Common.{◌≡◌, ◌≢◌, ℕ, zero, suc, ◌+◌, ◌<◌, Bool, if◌then◌else◌, List, [], ◌∷◌, ◌++◌, length, set, sym, refl, ap, arith, eq-eqb}
use Rattle.std.proofs.Common.{ne_eqb, Some}
use mathlib.Core.Option.{some, some-injective, some-ne-none}
use lib.ListN.{get_elem?}
use Rattle.bk_lease.specs.declared.rule.Role.{Role}
use Rattle.bk_lease.specs.declared.rule.Role.TheVariants.{Held}
use Rattle.bk_lease.specs.Leases.{hold_of, held_on, pending_on}
use Rattle.bk_lease.specs.Steps.{pin_on}

-- an element is at a position in the list
pub some_inside : {A : Type 0} (l : List A) (i : ℕ) (a : A) → get_elem? l i ≡ some a → i < length l
some_inside [] i a e = absurd (some-ne-none a (sym e))
some_inside (x ∷ xs) zero a e = omega arith
some_inside (x ∷ xs) (suc i) a e = let h = some_inside xs i a e in omega arith

pub hold_of-here : (slot : ℕ) → hold_of slot (Held slot) ≡ 1
hold_of-here slot = ap (λ (b : Bool). if b then 1 else 0) (eq-eqb slot slot refl)

pub hold_of-else : (slot other : ℕ) → slot ≢ other → hold_of slot (Held other) ≡ 0
hold_of-else slot other ne = ap (λ (b : Bool). if b then 1 else 0) (ne_eqb other slot (λ e. ne (sym e)))

pub pending_on-here : (slot met : ℕ) → pending_on slot (Some (pin_on slot met)) ≡ 1
pending_on-here slot met = hold_of-here slot

pub pending_on-else : (slot other met : ℕ) → slot ≢ other → pending_on slot (Some (pin_on other met)) ≡ 0
pending_on-else slot other met ne = hold_of-else slot other ne

-- changing one seat's view changes the count by the difference
pub held_on-set : (slot : ℕ) (views : List Role) (i : ℕ) (v w : Role) → get_elem? views i ≡ some v
    → held_on slot (set views i w) + hold_of slot v ≡ held_on slot views + hold_of slot w
held_on-set slot [] i v w e = absurd (some-ne-none v (sym e))
held_on-set slot (x ∷ xs) zero v w e = let same : hold_of slot x ≡ hold_of slot v = ap (hold_of slot) (some-injective x v e) in omega arith
held_on-set slot (x ∷ xs) (suc i) v w e = let rest = held_on-set slot xs i v w e in omega arith

-- one more seat
pub held_on-snoc : (slot : ℕ) (views : List Role) (v : Role) → held_on slot (views ++ v ∷ []) ≡ held_on slot views + hold_of slot v
held_on-snoc slot [] v = omega arith
held_on-snoc slot (x ∷ xs) v = let rest = held_on-snoc slot xs v in omega arith
