-- Accounts of logs whose entries are known, for callers' proofs. Read `AreSums` first: the sums
-- over the entries of each log.
use Rattle.std.specs.Prelude.{◌≡◌, ℕ, Bool, not, ◌&&◌, ◌==◌, List, Option, if◌then◌else◌}
use Rattle.std.specs.FinMap as finmap
use Rattle.std.specs.List.{sum_by}
use Rattle.std.specs.Option.{option_map}
use Rattle.bk_accounts.specs.Account.{ledger_size}
use Rattle.bk_accounts.specs.Book.{Book, total_in, remaining_in, named_in}

-- ledger of an entry of any kind, and bytes of its record with the length field
pub record Measure (E : Type 0) : Type 0 where
  pub ledger : E → ℕ
  pub size : E → ℕ

-- bytes of all entries
abbrev pub all_bytes : {E : Type 0} → Measure E → List E → ℕ
all_bytes measure entries = sum_by measure.size entries

-- bytes of the entries of live ledgers
abbrev pub live_bytes : {E : Type 0} → Measure E → (ℕ → Bool) → List E → ℕ
live_bytes measure is_dead entries = sum_by (λ e. if is_dead (measure.ledger e) then 0 else measure.size e) entries

-- the same for one ledger
abbrev pub live_bytes_of : {E : Type 0} → Measure E → (ℕ → Bool) → ℕ → List E → ℕ
live_bytes_of measure is_dead ledger entries =
    sum_by (λ e. if ledger == measure.ledger e && not (is_dead (measure.ledger e)) then measure.size e else 0) entries

-- bytes of a ledger with room in an open log, 0 without room
abbrev pub part_in : Book → ℕ → ℕ → Option ℕ
part_in book log ledger = option_map (λ account. ledger_size account ledger) (finmap.get book log)

-- The open logs are those with a list of entries. Each has the sums over its entries and this
-- number of names.
pub record AreSums {E : Type 0} (measure : Measure E) (is_dead : ℕ → Bool) (entries : ℕ → Option (List E)) (names : ℕ → ℕ) (book : Book) : Type 0 where
  pub total : (log : ℕ) → total_in book log ≡ option_map (all_bytes measure) (entries log)
  pub remaining : (log : ℕ) → remaining_in book log ≡ option_map (live_bytes measure is_dead) (entries log)
  pub by_ledger : (log ledger : ℕ) → part_in book log ledger ≡ option_map (live_bytes_of measure is_dead ledger) (entries log)
  pub named : (log : ℕ) → named_in book log ≡ option_map (λ _. names log) (entries log)
