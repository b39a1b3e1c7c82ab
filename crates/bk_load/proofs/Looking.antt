-- Loop invariant of `look_up`: the counts after the first receipts.
use Rattle.std.proofs.Common.{◌≡◌, ℕ, ◌+◌, ◌≤◌, List, take}
use Rattle.bk_store.specs.State.{State}
use Rattle.bk_store.specs.declared.mark.Receipt.{Receipt}
use Rattle.bk_load.specs.Missing.{dead_count, missing_count}

-- Two stores have the same entries.
pub record KnowsTheSame (s t : State) : Type 0 where
  pub caches : t.caches ≡ s.caches
  pub index : t.index ≡ s.index
  pub ledgers : t.ledgers ≡ s.ledgers

-- Loop invariant: for the first `at` receipts, the numbers of entries found, deleted and lost,
-- starting from store `s`.
pub record IsLooking (s t : State) (receipts : List Receipt) (at found deleted lost : ℕ) : Type 0 where
  pub all : found + deleted + lost ≡ at
  pub dead : deleted ≡ dead_count s (take at receipts)
  pub missing : missing_count s (take at receipts) ≤ lost
  pub same : KnowsTheSame s t
