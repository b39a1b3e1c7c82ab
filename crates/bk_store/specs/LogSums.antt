-- Sums over the logs that a store holds.
use Rattle.std.specs.Prelude.{ℕ}
use Rattle.std.specs.List.{sum_by}
use Rattle.std.specs.FinMap as finite
use Rattle.bk_store.specs.Logs.{Logs}

-- the sum of a number of each log that is held
abbrev pub over_logs : Logs → (ℕ → ℕ) → ℕ
over_logs logs of_log = sum_by (λ e. of_log e.0) (finite.entries logs)
