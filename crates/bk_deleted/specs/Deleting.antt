-- The deleted ledgers of a call.
use Rattle.std.specs.Prelude.{◌≡◌, ℕ, ◌<◌, ◌^◌, List, ◌++◌, All, Bool, ◌==◌, not, filter}
use Rattle.std.specs.List.{list_any}
use Rattle.std.specs.Ordering.{nat_cmp}
use Rattle.std.specs.BTreeSet.{BTreeSet, contains}

-- these ledgers, then more
abbrev pub Extends : List ℕ → List ℕ → Type 0
Extends ledgers longer = (more : List ℕ) × (longer ≡ ledgers ++ more)

-- the same, and there can be an entry of each one more
abbrev pub Gains : List ℕ → List ℕ → Type 0
Gains ledgers longer = (more : List ℕ) × (longer ≡ ledgers ++ more) × All (λ ledger. ledger < 2 ^ 63) more

-- a list has the ledger
abbrev pub is_among : List ℕ → ℕ → Bool
is_among ledgers ledger = list_any (λ one. one == ledger) ledgers

-- ledgers of which none is live
abbrev pub not_live : BTreeSet ℕ → List ℕ → List ℕ
not_live live ledgers = filter (λ ledger. not (contains nat_cmp live ledger)) ledgers
