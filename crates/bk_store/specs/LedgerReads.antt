-- Reads by ledger: the entries of a live ledger, and the live ledgers with an entry, in order. Read
-- `HasLiveEntry`, then `IsPage`.
use Rattle.std.specs.Prelude.{◌≡◌, ◌⊎◌, ℕ, ◌<◌, ◌≤◌, true, false, List, length, Option, Some, None}
use Rattle.std.specs.List.{All, Contains}
use Rattle.std.specs.List.Sorted.{IsStrictlyIncreasing}
use Rattle.bk_store.specs.State.{State}
use Rattle.bk_store.specs.Contents.{holds}
use Rattle.bk_store.specs.Transitions.{is_dead}

-- a write cache or the index has the entry
abbrev pub HoldsEntry : State → ℕ → ℕ → Type 0
HoldsEntry s ledger entry = holds s (record { ledger = ledger; entry = entry }) ≡ true

-- a write cache or the index has an entry of the ledger
abbrev pub HoldsLedger : State → ℕ → Type 0
HoldsLedger s ledger = (entry : ℕ) × HoldsEntry s ledger entry

-- the ledger is live, and the store holds the entry
abbrev pub HasLiveEntry : State → ℕ → ℕ → Type 0
HasLiveEntry s ledger entry = (is_dead s ledger ≡ false) × HoldsEntry s ledger entry

-- the ledger is live, and the store holds an entry of it
abbrev pub HasLiveLedger : State → ℕ → Type 0
HasLiveLedger s ledger = (is_dead s ledger ≡ false) × HoldsLedger s ledger

-- the greatest number with a property, none if no number has it
abbrev pub IsGreatest : (ℕ → Type 0) → Option ℕ → Type 0
IsGreatest P None = (n : ℕ) → ¬ (P n)
IsGreatest P (Some greatest) = P greatest × ((n : ℕ) → P n → n ≤ greatest)

-- the least number with a property, from this one on, none if there is none
abbrev pub IsLeastFrom : (ℕ → Type 0) → ℕ → Option ℕ → Type 0
IsLeastFrom P from None = (n : ℕ) → from ≤ n → ¬ (P n)
IsLeastFrom P from (Some least) = (from ≤ least) × P least × ((n : ℕ) → from ≤ n → P n → least ≤ n)

-- The first numbers with a property, from this one on, at most `most`: they rise, each has it, and
-- each number that has it is in the page, or behind a full page.
pub record IsPage (P : ℕ → Type 0) (from most : ℕ) (page : List ℕ) : Type 0 where
  pub within : length page ≤ most
  pub rising : IsStrictlyIncreasing page
  pub each : All (λ n. (from ≤ n) × P n) page
  pub complete : (n : ℕ) → from ≤ n → P n → Contains page n ⊎ ((length page ≡ most) × All (λ m. m < n) page)
