-- The counts of a log as rows, and the sums over the rows.
use Rattle.std.specs.Prelude.{◌≡◌, ℕ, Bool, not, ◌&&◌, ◌||◌, ◌==◌, List, if◌then◌else◌}
use Rattle.std.specs.List.{sum_by}
use Rattle.bk_accounts.specs.Account.{Account, remaining_size, ledger_size}

-- one count: ledger, bytes, and whether the ledger was forgotten later
pub record Row : Type 0 where
  pub ledger : ℕ
  pub size : ℕ
  pub forgotten : Bool

-- sum of all sizes
abbrev pub total_of : List Row → ℕ
total_of rows = sum_by (λ row. row.size) rows

-- sum over rows whose ledger was not forgotten later
abbrev pub remaining_of : List Row → ℕ
remaining_of rows = sum_by (λ row. if row.forgotten then 0 else row.size) rows

-- the same for one ledger
abbrev pub remaining_of_ledger : ℕ → List Row → ℕ
remaining_of_ledger ledger rows = sum_by (λ row. if ledger == row.ledger && not row.forgotten then row.size else 0) rows

-- the row after its ledger is forgotten
abbrev pub forget_row : ℕ → Row → Row
forget_row ledger row = record row { forgotten = row.forgotten || ledger == row.ledger }

-- the account has the sums of the rows
pub record Tallies (rows : List Row) (account : Account) : Type 0 where
  pub total : account.total ≡ total_of rows
  pub remaining : remaining_size account ≡ remaining_of rows
  pub by_ledger : (ledger : ℕ) → ledger_size account ledger ≡ remaining_of_ledger ledger rows
