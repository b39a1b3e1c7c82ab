-- A loss of power during a call on a test disk, and after it.
use Rattle.std.specs.Prelude.{◌≡◌, ℕ, ◌<◌, ◌-◌, ◌^◌, List, take}
use Rattle.bk_record.specs.Files.{Files}
use Rattle.bk_disk.specs.Disk.{files_after_append}
use Rattle.bk_crash.specs.Noting.{NotedLogs, noted, longer_log}

-- The power is off: a call was refused. The count of refused calls, of 64 bits, is not at its end.
abbrev pub IsOff : ℕ → Type 0
IsOff refused = (0 < refused) × (refused < 2 ^ 64 - 1)

-- An append that fails writes the same prefix of its bytes to the files and to the record.
abbrev pub WritesFront : Files → NotedLogs → ℕ → List ℕ → Files → NotedLogs → Type 0
WritesFront files logs log bytes files' logs' = (n : ℕ) × (files' ≡ files_after_append files log (take n bytes))
    × (logs' ≡ noted (longer_log (take n bytes)) logs log)
