-- What is counted of a directory while it is read. Read `IsRowOf`: the row of a log has each byte of the file in one part.
use Rattle.std.specs.Prelude.{◌≡◌, ℕ, ◌+◌, ◌-◌, ◌*◌, ◌/◌, ◌≤◌, ◌==◌, ◌&&◌, nat_lt, Bool, if◌then◌else◌}
use Rattle.bk_report.specs.declared.report.LogRow.{LogRow}
use Rattle.bk_report.specs.declared.counting.LogCount.{LogCount}
use Rattle.bk_report.specs.declared.counting.LogEnd.{LogEnd}
use Rattle.bk_report.specs.declared.counting.LogEnd.TheVariants.{Read, Doubtful}
use Rattle.bk_report.specs.Parts.{saturated}

-- One more entry of a log: its bytes are those of dead entries if its ledger is deleted, else of live ones.
pub record AddsEntry (size : ℕ) (is_dead is_first : Bool) (before after : LogCount) : Type 0 where
  pub log : after.log ≡ before.log
  pub bytes : after.bytes ≡ before.bytes
  pub sealed : after.is_sealed ≡ before.is_sealed
  pub entries : after.entries ≡ saturated (before.entries + 1)
  pub live : after.live ≡ saturated (before.live + (if is_dead then 0 else size))
  pub dead : after.dead ≡ saturated (before.dead + (if is_dead then size else 0))
  pub ledgers : after.live_ledgers ≡ saturated (before.live_ledgers + (if is_dead then 0 else if is_first then 1 else 0))

-- the bytes after the last whole record
abbrev pub torn_of : LogEnd → ℕ
torn_of (Read torn) = torn
torn_of (Doubtful from) = 0

-- the bytes from a fault on, of a file of this length
abbrev pub doubtful_of : ℕ → LogEnd → ℕ
doubtful_of bytes (Read torn) = 0
doubtful_of bytes (Doubtful from) = bytes - from

-- the bytes of a ledgers map: for each ledger 16, and for each batch of at most 10,000 ledgers 24
abbrev pub map_bytes : ℕ → ℕ
map_bytes ledgers = 16 * ledgers + 24 * ((ledgers + 9999) / 10000)

-- the length of a log with the live entries alone; 0 if there are none
abbrev pub copy_of : LogCount → ℕ
copy_of count = if count.live == 0 then 0 else saturated (1024 + count.live + map_bytes count.live_ledgers)

-- The row of a log: what was counted, and the end. Foreign are the bytes that nothing else has.
pub record IsRowOf (count : LogCount) (end : LogEnd) (row : LogRow) : Type 0 where
  pub log : row.log ≡ count.log
  pub bytes : row.bytes ≡ count.bytes
  pub live : row.live ≡ count.live
  pub dead : row.dead ≡ count.dead
  pub entries : row.entries ≡ count.entries
  pub sealed : row.is_sealed ≡ count.is_sealed
  pub torn : row.torn ≡ torn_of end
  pub doubtful : row.doubtful ≡ doubtful_of count.bytes end
  pub foreign : row.foreign ≡ count.bytes - (1024 + count.live + count.dead + torn_of end + doubtful_of count.bytes end)
  pub copy : row.copy ≡ copy_of count
  pub kept : row.is_kept ≡ (nat_lt 0 count.bytes && nat_lt count.bytes 1024)

-- The parts and the header are the whole file, if what was counted fits in it.
abbrev pub CoversFile : LogCount → LogEnd → LogRow → Type 0
CoversFile count end row = 1024 + count.live + count.dead + torn_of end + doubtful_of count.bytes end ≤ count.bytes
    → 1024 + row.live + row.dead + row.foreign + row.torn + row.doubtful ≡ row.bytes
