-- The sizes of logs, and the sums of a compaction.
use Rattle.std.specs.Prelude.{◌≡◌, ℕ, ◌-◌, ◌<◌, ◌^◌, min, List, length, sum, IfSome, ℤ, pos, ◌-ℤ◌}
use Rattle.std.specs.Ordering.{nat_cmp}
use Rattle.std.specs.BTreeMap.{BTreeMap, btree_map_len, get, values}
use Rattle.bk_record.specs.Files.{Files}
use Rattle.bk_disk.specs.Disk.{IsFile}
use Rattle.bk_compact_disk.specs.declared.summary.Size.{Size}
use Rattle.bk_compact_disk.specs.declared.summary.Summary.{Summary}
use Rattle.bk_compact_disk.specs.declared.summary.SummaryRow.{SummaryRow}

-- each log that is listed is a file of this length
abbrev pub AreLengths : Files → BTreeMap ℕ ℕ → Type 0
AreLengths files lengths = (log : ℕ) → IfSome (get nat_cmp lengths log) (λ bytes. (file : List ℕ) × IsFile files log file × (bytes ≡ length file))

-- the number of these logs, and the sum of their lengths, at most the greatest number of 64 bits
pub record IsSizeOf (lengths : BTreeMap ℕ ℕ) (size : Size) : Type 0 where
  pub logs : size.logs ≡ btree_map_len lengths
  pub bytes : size.bytes ≡ min (sum (values lengths)) (2 ^ 64 - 1)

-- the bytes by which the files are shorter: below 0 if they are longer
abbrev pub FreesBytes : ℕ → ℕ → ℤ → Type 0
FreesBytes before after freed = before < 2 ^ 63 → after < 2 ^ 63 → freed ≡ pos before -ℤ pos after

-- The row shows the logs before and after, the bytes that are freed, and the entries copied.
pub record ShowsSums (summary : Summary) (row : SummaryRow) : Type 0 where
  pub before : row.before ≡ summary.before.logs
  pub after : row.after ≡ summary.after.logs
  pub freed : FreesBytes summary.before.bytes summary.after.bytes row.freed
  pub moved : row.moved ≡ summary.moved
