-- Layout of the trail in memory: one list and, from half full on, a second one of twice the size,
-- to which the marks move step by step.
use Rattle.std.specs.Prelude.{◌≡◌, ◌≢◌, ℕ, ◌+◌, ◌-◌, ◌<◌, ◌≤◌, ◌==◌, if◌then◌else◌, List, length, take}
use Rattle.bk_store.specs.declared.mark.Mark.{Mark}

-- The second list has the first marks, two for each mark after the half.
pub record IsMoved (marks next : List Mark) (half : ℕ) : Type 0 where
  pub first : next ≡ take (length next) marks
  pub two_each : length next + (half + half) ≡ length marks + length marks
  pub behind : half ≤ length marks

-- The list has room for twice `half`. A second list exists only after that half; it has twice the
-- room, and all marks when the first is full.
pub record IsSpread (marks next : List Mark) (capacity next_capacity half : ℕ) : Type 0 where
  pub halves : capacity ≡ half + half
  pub before : next_capacity ≡ 0 → length marks ≤ half
  pub moving : next_capacity ≢ 0 → IsMoved marks next half × (length marks < capacity) × (next_capacity ≡ capacity + capacity)

-- how many marks fit without an allocation
abbrev pub room_of : ℕ → ℕ → ℕ → ℕ → ℕ
room_of long capacity next_capacity half = if next_capacity == 0 then half - long else capacity - long
