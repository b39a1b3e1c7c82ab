use Rattle.std.specs.Prelude.{ℕ, ◌<◌, ◌≤◌, All}
use Rattle.std.specs.FinMap as map
use Rattle.bk_load.proofs.before.free_ledger.Given as goal

abbrev pub invariant-loop-key : goal.invariant-loop-key
invariant-loop-key l = (m : ℕ) → l.free ≤ m → All (λ e. e.0.ledger < m) l.key-iterator → All (λ e. e.0.ledger < m) (map.entries l.index)
