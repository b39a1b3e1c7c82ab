-- Entries of an index, against those of a list of receipts.
use Rattle.std.specs.Prelude.{ℕ, ◌≤◌, nat_lt, List, map, All, Contains, count_by}
use Rattle.std.specs.FinMap as finite
use Rattle.bk_record.specs.Key.{EntryKey}
use Rattle.bk_record.specs.Keyed.{Places}
use Rattle.bk_store.specs.declared.mark.Receipt.{Receipt}

-- The keys of the receipts.
abbrev pub keys_of : List Receipt → List EntryKey
keys_of receipts = map (λ r. r.key) receipts

-- Number of entries of ledgers below this one.
abbrev pub earlier_count : ℕ → Places → ℕ
earlier_count first index = count_by (λ e. nat_lt e.0.ledger first) (finite.entries index)

-- Each entry of a ledger from this one on is of a receipt.
abbrev pub AreKnown : ℕ → List Receipt → Places → Type 0
AreKnown first receipts index = All (λ e. first ≤ e.0.ledger → Contains (keys_of receipts) e.0) (finite.entries index)
