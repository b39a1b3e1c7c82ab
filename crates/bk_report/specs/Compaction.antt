-- What a compaction would free. Read `is_taken` and `IsEffect`.
use Rattle.std.specs.Prelude.{◌≡◌, ℕ, ◌+◌, ◌-◌, ◌*◌, ◌&&◌, ◌||◌, ◌==◌, nat_lt, not, Bool, List, count_by, sum_by, if◌then◌else◌, is_none}
use Rattle.bk_report.specs.declared.report.LogRow.{LogRow}
use Rattle.bk_report.specs.declared.compaction.Effect.{Effect}
use Rattle.bk_report.specs.declared.compaction.Amount.{Amount}
use Rattle.bk_report.specs.declared.compaction.Amount.TheVariants.{Live, File, Copy}
use Rattle.bk_report.specs.Parts.{saturated}

-- A compaction takes a log that is not kept and has no fault, if fewer than `threshold` thousandths of the bytes of its
-- entries are live, or none.
abbrev pub is_taken : ℕ → LogRow → Bool
is_taken threshold row = not row.is_kept && is_none row.fault && (row.live == 0 || nat_lt (row.live * 1000) (threshold * (row.live + row.dead)))

-- an amount of a log: its live bytes, its file, and its copy
abbrev pub amount_of : Amount → LogRow → ℕ
amount_of Live row = row.live
amount_of File row = row.bytes
amount_of Copy row = row.copy

-- the amount of a log if a compaction takes it
abbrev pub taken_of : Amount → ℕ → LogRow → ℕ
taken_of amount threshold row = if is_taken threshold row then amount_of amount row else 0

-- the sum of an amount over the logs that a compaction takes, at most the greatest number of 64 bits
abbrev pub sum_taken_of : Amount → ℕ → List LogRow → ℕ
sum_taken_of amount threshold rows = saturated (sum_by (taken_of amount threshold) rows)

-- The number of logs taken, their live bytes, and the bytes of their files less those of their copies.
pub record IsEffect (threshold : ℕ) (rows : List LogRow) (effect : Effect) : Type 0 where
  pub logs : effect.logs ≡ count_by (is_taken threshold) rows
  pub copied : effect.copied ≡ sum_taken_of Live threshold rows
  pub freed : effect.freed ≡ sum_taken_of File threshold rows - sum_taken_of Copy threshold rows
