use Rattle.std.proofs.Common.{ℕ, ◌-◌, ◌<◌, ◌≤◌, ◌^◌}
use Rattle.bk_store.specs.LedgerReads.{HasLiveLedger}
use Rattle.bk_store.proofs.fields.Fields.next_live_ledger.Given as goal

abbrev pub invariant-loop-ledger : goal.invariant-loop-ledger
invariant-loop-ledger g l = record {
  start : l.from ≤ l.at;
  none : (n : ℕ) → l.from ≤ n → n < l.at → ¬ (HasLiveLedger l.self.state n);
}

abbrev pub decreases-loop-ledger : goal.decreases-loop-ledger
decreases-loop-ledger g l = 2 ^ 63 - l.at
