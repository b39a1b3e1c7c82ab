use Rattle.std.proofs.Common.{ℕ, ◌+◌, ◌≤◌}
use Rattle.bk_log.specs.Sizes.{size_in}
use Rattle.bk_inspect.proofs.ledgers.counted_ledgers.Given as goal

abbrev pub invariant-loop-sizes : goal.invariant-loop-sizes
invariant-loop-sizes g l = (ledger : ℕ) → size_in l.sizes.sizes ledger + l.scanner.left ≤ l.initial.scanner.left

abbrev pub decreases-loop-sizes : goal.decreases-loop-sizes
decreases-loop-sizes g l = l.scanner.left
