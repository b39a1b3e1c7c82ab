-- State and count in a slot's word.
use Rattle.std.proofs.Common.{◌≡◌, ℕ, ◌+◌, ◌-◌, ◌%◌, ◌^◌, ◌<◌, refl, arith}
use Rattle.bk_lease.specs.declared.slot.Slot.{Slot}
use Rattle.bk_lease.specs.declared.slot.Slot.TheVariants.{Free, Open, Closed}
use Rattle.bk_lease.specs.Leases.{MayOpen, WordIs}

-- word after a `fetch_add` of 1
abbrev pub one_more : ℕ → ℕ
one_more word = (word + 1) % 2 ^ 64

-- word after a `fetch_sub` of 1
abbrev pub one_less : ℕ → ℕ
one_less word = (word + (2 ^ 64 - 1)) % 2 ^ 64

-- a slot with a lease in its word is open
pub counted_open : (state : Slot) (count word : ℕ) → WordIs state (count + 1) word → (log : ℕ) × (state ≡ Open log)
counted_open Free count word is = let none : count + 1 ≡ 0 = is.0 in absurd (omega arith)
counted_open (Open log) count word is = (log, refl)
counted_open (Closed log) count word is = let none : count + 1 ≡ 0 = is.1 in absurd (omega arith)

-- a slot that can be opened has no lease in its word
pub counted_none : (state : Slot) (count word : ℕ) → MayOpen state → WordIs state count word → count ≡ 0
counted_none Free count word may is = is.0
counted_none (Open log) count word may is = absurd may
counted_none (Closed log) count word may is = is.1

-- word with one lease fewer
pub WordIs-one_less : (state : Slot) (count word : ℕ) → WordIs state (count + 1) word → word < 2 ^ 64 → WordIs state count (one_less word)
WordIs-one_less Free count word is small = let none : count + 1 ≡ 0 = is.0 in absurd (omega arith)
WordIs-one_less (Open log) count word is small = (is.0, omega arith)
WordIs-one_less (Closed log) count word is small = let none : count + 1 ≡ 0 = is.1 in absurd (omega arith)
