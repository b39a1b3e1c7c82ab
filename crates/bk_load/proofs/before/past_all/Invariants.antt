use Rattle.std.proofs.Common.{ℕ, ◌<◌, ◌≤◌, take}
use Rattle.std.specs.List.{All}
use Rattle.bk_load.proofs.before.past_all.Given as goal

abbrev pub invariant-loop-ledger : goal.invariant-loop-ledger
invariant-loop-ledger l = record {
  above : l.fn.first ≤ l.first;
  past : (m : ℕ) → l.first ≤ m → All (λ ledger. ledger < m) (take l.ledger-index l.ledgers);
}
