-- Ledgers that records have as deleted or fenced.
use Rattle.std.specs.Prelude.{◌≡◌, ℕ, ◌<◌, ◌^◌, Bool, true, is_some, List}
use Rattle.std.specs.FinSet as set
use Rattle.bk_manifest.specs.Fact.{Fact}
use Rattle.bk_manifest.specs.State.{last_about, the_deletion, the_fence}
use Rattle.bk_store.specs.Ledgers.{KnownLedgers}

-- the deletion of the ledger is recorded
abbrev pub is_deleted : List Fact → ℕ → Bool
is_deleted records ledger = is_some (last_about (the_deletion ledger) records)

-- the fence of the ledger is recorded
abbrev pub is_fenced : List Fact → ℕ → Bool
is_fenced records ledger = is_some (last_about (the_fence ledger) records)

-- Each deleted ledger of the store is recorded as deleted, and each fenced one as fenced. Numbers
-- that are no ledger ids have no entries, and no records.
pub record AreLedgersRecorded (known : KnownLedgers) (records : List Fact) : Type 0 where
  pub deleted : (ledger : ℕ) → ledger < 2 ^ 63 → set.contains known.dead ledger ≡ true → is_deleted records ledger ≡ true
  pub fenced : (ledger : ℕ) → ledger < 2 ^ 63 → set.contains known.fenced ledger ≡ true → is_fenced records ledger ≡ true
