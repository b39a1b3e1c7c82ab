-- Entries of a store, against those of a list of receipts.
use Rattle.std.specs.Prelude.{Bool, not, ◌&&◌, is_some, ℕ, List, count_by}
use Rattle.std.specs.FinMap as finite
use Rattle.bk_record.specs.Key.{EntryKey}
use Rattle.bk_store.specs.State.{State}
use Rattle.bk_store.specs.Transitions.{is_dead}
use Rattle.bk_store.specs.Contents.{cached_at}
use Rattle.bk_store.specs.declared.mark.Receipt.{Receipt}

-- Number of receipts of deleted ledgers.
abbrev pub dead_count : State → List Receipt → ℕ
dead_count s receipts = count_by (λ r. is_dead s r.key.ledger) receipts

-- The ledger is live, and neither a cache nor the index has the entry.
abbrev pub is_missing : State → EntryKey → Bool
is_missing s key = not (is_dead s key.ledger) && (not (is_some (cached_at s key)) && not (is_some (finite.get s.index key)))

-- Number of receipts whose entry is missing.
abbrev pub missing_count : State → List Receipt → ℕ
missing_count s receipts = count_by (λ r. is_missing s r.key) receipts
