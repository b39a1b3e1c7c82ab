-- The parts of a log.
use Rattle.std.specs.Prelude.{ℕ, ◌+◌, ◌-◌, ◌^◌, min}
use Rattle.bk_report.specs.declared.part.Part.{Part}
use Rattle.bk_report.specs.declared.part.Part.TheVariants.{Live, Dead, Foreign, Torn, Doubtful, Rest}
use Rattle.bk_report.specs.declared.report.LogRow.{LogRow}

-- the bytes of a part of a log; the rest is what no other part has
abbrev pub part_bytes : Part → LogRow → ℕ
part_bytes Live row = row.live
part_bytes Dead row = row.dead
part_bytes Foreign row = row.foreign
part_bytes Torn row = row.torn
part_bytes Doubtful row = row.doubtful
part_bytes Rest row = row.bytes - (row.live + row.dead + row.foreign + row.torn + row.doubtful)

-- a sum, or the greatest number of 64 bits if the sum is larger
abbrev pub saturated : ℕ → ℕ
saturated n = min n (2 ^ 64 - 1)
