-- Durability: the bytes of each log that a crash leaves at least (`kept`), and the removed files
-- that may be back after a crash (`gone`). Read `SyncDurability` and `IsDroppedFromDurable` first.
use Rattle.std.specs.Prelude.{◌≡◌, ◌≢◌, ◌⊎◌, ℕ, ◌+◌, ◌≤◌, List, length, drop, Some, None, Result, Ok, Err}
use Rattle.std.specs.FinMap as map
use Rattle.bk_record.specs.Files.{Files, file_of, header_length}
use Rattle.bk_record.specs.Longer.{IsLonger}
use Rattle.bk_disk.specs.declared.fault.DiskFault.{DiskFault}
use Rattle.bk_disk.specs.declared.fault.DiskFault.TheVariants.{Disk, Exists, NoLog, PastEnd, TooLong, Memory}

-- The bytes are durable: the durable part of the log begins with them, or is a longer version of
-- them (`IsLonger`).
abbrev pub IsDurable : Files → ℕ → List ℕ → Type 0
IsDurable kept log file = (now : List ℕ) × (map.get kept log ≡ Some now) × IsLonger file now

-- the first `end` bytes of the log are durable; the header counts as durable
abbrev pub IsDurableUpTo : Files → ℕ → ℕ → Type 0
IsDurableUpTo kept log end = (file : List ℕ) × (map.get kept log ≡ Some file) × (end ≤ header_length + length (drop header_length file))

-- the durable part of each log does not shrink, and no further removed file may be back
pub record DurableGrows (kept gone kept' gone' : Files) : Type 0 where
  pub more : (log : ℕ) (file : List ℕ) → map.get kept log ≡ Some file → IsDurable kept' log file
  pub back : (log : ℕ) (file : List ℕ) → map.get gone' log ≡ Some file → map.get gone log ≡ Some file

-- `sync`: the bytes of the log are durable
abbrev pub SyncDurability : {T : Type 0} → Files → ℕ → Result T DiskFault → Files → Type 0
SyncDurability files log (Ok _) kept' = IsDurable kept' log (file_of files log)
SyncDurability files log (Err _) kept' = Unit {0}

-- all bytes of the log are durable, if there is such a log
abbrev pub IsAllDurable : Files → ℕ → Files → Type 0
IsAllDurable files log kept = (file : List ℕ) → map.get files log ≡ Some file → IsDurable kept log file

-- `remove`: a crash may leave the log's file, or not
pub record IsDroppedFromDurable (files : Files) (log : ℕ) (kept gone kept' gone' : Files) : Type 0 where
  pub more : (other : ℕ) (file : List ℕ) → other ≢ log → map.get kept other ≡ Some file → IsDurable kept' other file
  pub back : (other : ℕ) (file : List ℕ) → map.get gone' other ≡ Some file
      → (map.get gone other ≡ Some file) ⊎ ((other ≡ log) × (map.get files other ≡ Some file))

-- The file of a removal that failed may be gone already: only the directory may be left to be
-- synced.
abbrev pub RemoveDurability : {T : Type 0} → Files → ℕ → Result T DiskFault → Files → Files → Files → Files → Type 0
RemoveDurability files log (Ok _) kept gone kept' gone' = IsDroppedFromDurable files log kept gone kept' gone'
RemoveDurability files log (Err Disk) kept gone kept' gone' = IsDroppedFromDurable files log kept gone kept' gone'
RemoveDurability files log (Err Exists) kept gone kept' gone' = DurableGrows kept gone kept' gone'
RemoveDurability files log (Err NoLog) kept gone kept' gone' = DurableGrows kept gone kept' gone'
RemoveDurability files log (Err PastEnd) kept gone kept' gone' = DurableGrows kept gone kept' gone'
RemoveDurability files log (Err TooLong) kept gone kept' gone' = DurableGrows kept gone kept' gone'
RemoveDurability files log (Err Memory) kept gone kept' gone' = DurableGrows kept gone kept' gone'

-- `list`: no file that was removed before may be back after a crash
abbrev pub ListDurability : {T : Type 0} → Result T DiskFault → Files → Type 0
ListDurability (Ok _) gone' = gone' ≡ map.empty
ListDurability (Err _) gone' = Unit {0}
