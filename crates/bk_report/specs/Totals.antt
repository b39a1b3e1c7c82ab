-- The sums over all logs.
use Rattle.std.specs.Prelude.{◌≡◌, ◌+◌, max, List, fold, sum_by, if◌then◌else◌}
use Rattle.bk_report.specs.declared.report.LogRow.{LogRow}
use Rattle.bk_report.specs.declared.totals.Totals.{Totals}
use Rattle.bk_report.specs.Parts.{saturated}

-- the sums over all logs, each at most the greatest number of 64 bits, and the largest file
pub record IsTotals (rows : List LogRow) (totals : Totals) : Type 0 where
  pub bytes : totals.bytes ≡ saturated (sum_by (λ row. row.bytes) rows)
  pub live : totals.live ≡ saturated (sum_by (λ row. row.live) rows)
  pub dead : totals.dead ≡ saturated (sum_by (λ row. row.dead) rows)
  pub entries : totals.entries ≡ saturated (sum_by (λ row. row.entries) rows)
  pub largest : totals.largest ≡ fold (λ most row. max most row.bytes) 0 rows
  pub sealed : totals.sealed ≡ saturated (sum_by (λ row. if row.is_sealed then 1 else 0) rows)

-- the sums with one more log
pub record AddsLog (before : Totals) (row : LogRow) (after : Totals) : Type 0 where
  pub bytes : after.bytes ≡ saturated (before.bytes + row.bytes)
  pub live : after.live ≡ saturated (before.live + row.live)
  pub dead : after.dead ≡ saturated (before.dead + row.dead)
  pub entries : after.entries ≡ saturated (before.entries + row.entries)
  pub largest : after.largest ≡ max before.largest row.bytes
  pub sealed : after.sealed ≡ saturated (before.sealed + (if row.is_sealed then 1 else 0))
