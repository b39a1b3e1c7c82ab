-- Effect of a call of the disk on a log: bytes at its end, or twelve over its header.
use Rattle.std.specs.Prelude.{◌≡◌, ℕ, ◌+◌, ◌<◌, ◌≤◌, ◌^◌, List, length, take, Result, Ok, Err}
use Rattle.bk_record.specs.Files.{Files}
use Rattle.bk_disk.specs.Disk.{IsFile, files_after_append, files_after_patch}
use Rattle.bk_log.specs.declared.fault.LogFault.{LogFault}
use Rattle.bk_log.specs.declared.fault.LogFault.TheVariants.{Disk, Failed, Memory, Odd}

-- the log exists, and `size` bytes more leave it at most 2 ^ 32 - 1 bytes
pub record HasRoom (files : Files) (log size : ℕ) : Type 0 where
  pub file : List ℕ
  pub stands : IsFile files log file
  pub fits : length file + size < 2 ^ 32

-- the log exists, and has the bytes that a patch overwrites
pub record HasPatchableHeader (files : Files) (log : ℕ) : Type 0 where
  pub file : List ℕ
  pub stands : IsFile files log file
  pub long : 20 ≤ length file

-- append to a log that has room; a failing device leaves a prefix of the bytes, possibly all
abbrev pub Adds : Files → ℕ → List ℕ → Result (Unit {0}) LogFault → Files → Type 0
Adds files log bytes (Ok _) files' = files' ≡ files_after_append files log bytes
Adds files log bytes (Err Disk) files' = (n : ℕ) × (files' ≡ files_after_append files log (take n bytes))
Adds files log bytes (Err Failed) files' = ⊥
Adds files log bytes (Err Memory) files' = files' ≡ files
Adds files log bytes (Err Odd) files' = ⊥

-- overwrite of twelve bytes at position 8; a failing device leaves any bytes there
abbrev pub Overwrites : Files → ℕ → List ℕ → Result (Unit {0}) LogFault → Files → Type 0
Overwrites files log bytes (Ok _) files' = files' ≡ files_after_patch files log bytes
Overwrites files log bytes (Err Disk) files' = (left : List ℕ) × ((length left ≡ 12) × (files' ≡ files_after_patch files log left))
Overwrites files log bytes (Err Failed) files' = ⊥
Overwrites files log bytes (Err Memory) files' = files' ≡ files
Overwrites files log bytes (Err Odd) files' = ⊥
