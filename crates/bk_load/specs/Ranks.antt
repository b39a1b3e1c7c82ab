-- Latency percentiles of sorted times.
use Rattle.std.specs.Prelude.{◌≡◌, ℕ, List, [], ◌∷◌, Some, length, slice_get, ◌-◌, ◌/◌}
use Rattle.bk_load.specs.declared.latency.Latencies.{Latencies}

-- One in `part` of the other times exceeds it in rank, and no more. 0 if there are no times.
abbrev pub IsRank : List ℕ → ℕ → ℕ → Type 0
IsRank [] part time = time ≡ 0
IsRank (first ∷ rest) part time = slice_get (first ∷ rest) (length rest - length rest / part) ≡ Some time

-- The times that half, a hundredth and a thousandth of the others exceed in rank.
pub record AreRanks (sorted : List ℕ) (l : Latencies) : Type 0 where
  pub half : IsRank sorted 2 l.at_500
  pub hundredth : IsRank sorted 100 l.at_990
  pub thousandth : IsRank sorted 1000 l.at_999
