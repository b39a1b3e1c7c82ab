-- Truncation of a log. Read `Cuts` first.
use Rattle.std.specs.Prelude.{◌≡◌, ◌≢◌, ◌⊎◌, ℕ, List, take, Some, IsSome, IsNone, Result, Ok, Err}
use Rattle.std.specs.FinMap as map
use Rattle.bk_record.specs.Files.{Files}
use Rattle.bk_disk.specs.Disk.{IsFile}
use Rattle.bk_disk.specs.Durable.{IsDurable}
use Rattle.bk_disk.specs.declared.fault.DiskFault.{DiskFault}
use Rattle.bk_disk.specs.declared.fault.DiskFault.TheVariants.{Disk, Exists, NoLog, PastEnd, TooLong, Memory}

-- the log has its first `length` bytes; all other files are unchanged
abbrev pub IsCutTo : Files → ℕ → ℕ → Files → Type 0
IsCutTo old log length new = (file : List ℕ) × IsFile old log file × (new ≡ map.insert old log (take length file))

-- `cut`: truncates a log, or a failing device leaves it as it was
abbrev pub Cuts : {T : Type 0} → Files → ℕ → ℕ → Result T DiskFault → Files → Type 0
Cuts old log length (Ok _) new = IsCutTo old log length new
Cuts old log length (Err Disk) new = (new ≡ old) ⊎ IsCutTo old log length new
Cuts old log length (Err NoLog) new = IsNone (map.get old log) × (new ≡ old)
Cuts old log length (Err Memory) new = IsSome (map.get old log) × (new ≡ old)
Cuts old log length (Err Exists) new = ⊥
Cuts old log length (Err PastEnd) new = ⊥
Cuts old log length (Err TooLong) new = ⊥

-- What is durable while a log is truncated: the other logs as before, and of this one the durable
-- bytes among the first `length`. No further removed file may be back.
pub record KeepsFrontDurable (log length : ℕ) (kept gone kept' gone' : Files) : Type 0 where
  pub others : (other : ℕ) (file : List ℕ) → other ≢ log → map.get kept other ≡ Some file → IsDurable kept' other file
  pub front : (file : List ℕ) → map.get kept log ≡ Some file → IsDurable kept' log (take length file)
  pub back : (other : ℕ) (file : List ℕ) → map.get gone' other ≡ Some file → map.get gone other ≡ Some file
