-- The record of the calls on a test disk: of each log its bytes and its synced length; and the
-- removed files.
use Rattle.std.specs.Prelude.{◌≡◌, ◌⊎◌, ℕ, Bool, true, false, min, List, [], ◌++◌, length, take, Option, None, Some, option_map, Result, Ok, Err, refl}
use Rattle.std.specs.Ordering.{nat_cmp}
use Rattle.std.specs.Option.{option_map_or}
use Rattle.std.specs.Coded.{Coded, code_by, coded×, coded_ℕ, coded_bool, coded_list, coded_option}
use Rattle.std.specs.FinMap as finite
use Rattle.bk_record.specs.Files.{Files}
use Rattle.bk_disk.specs.Disk.{patched_file}
use Rattle.bk_disk.specs.declared.fault.DiskFault.{DiskFault}

-- The record of a log: its bytes; the number of its durable bytes, or `None` if the file itself is
-- not durable; and whether its header was patched since.
pub record NotedLog : Type 0 where
  pub bytes : List ℕ
  pub synced : Option ℕ
  pub patched : Bool

abbrev pub log_code : Coded NotedLog
log_code = code_by (List ℕ × (Option ℕ × Bool)) (coded× (coded_list coded_ℕ) (coded× (coded_option coded_ℕ) coded_bool))
    (λ l. (l.bytes, (l.synced, l.patched))) (λ p. record { bytes = p.0; synced = p.1.0; patched = p.1.1 }) (λ _. refl)

abbrev pub NotedLogs : Type 0
NotedLogs = finite.FinMap nat_cmp NotedLog

-- ---- a log

-- A log that is durable with all its bytes.
abbrev pub found_log : List ℕ → NotedLog
found_log bytes = record { bytes = bytes; synced = Some (length bytes); patched = false }

-- A log that was created.
abbrev pub made_log : NotedLog
made_log = record { bytes = []; synced = None; patched = false }

-- With more bytes at its end.
abbrev pub longer_log : List ℕ → NotedLog → NotedLog
longer_log more log = record log { bytes = log.bytes ++ more }

-- With other bytes in its header.
abbrev pub patched_log : List ℕ → NotedLog → NotedLog
patched_log bytes log = record log { bytes = patched_file log.bytes bytes; patched = true }

-- Durable as it is.
abbrev pub synced_log : NotedLog → NotedLog
synced_log log = record log { synced = Some (length log.bytes); patched = false }

-- Truncated. No byte that is cut off stays durable.
abbrev pub cut_log : ℕ → NotedLog → NotedLog
cut_log n log = record log { bytes = take n log.bytes; synced = option_map (λ synced. min synced n) log.synced }

-- ---- all logs

-- A change of one log, if it exists.
abbrev pub noted : (NotedLog → NotedLog) → NotedLogs → ℕ → NotedLogs
noted change logs log = option_map_or (λ l. finite.insert logs log (change l)) (finite.get logs log) logs

-- The removed files with that of this log, if it existed.
abbrev pub with_removed : Files → ℕ → Option NotedLog → Files
with_removed gone log None = gone
with_removed gone log (Some removed) = finite.insert gone log removed.bytes

-- ---- when it is recorded

-- A call is recorded exactly if the disk reports success.
abbrev pub IsNoted : {T X : Type 0} → Result T DiskFault → X → X → X → Type 0
IsNoted (Ok _) before now after = now ≡ after
IsNoted (Err _) before now after = now ≡ before

-- A call that fails may be recorded in part.
abbrev pub IsNotedInPart : {T X : Type 0} → Result T DiskFault → X → X → (ℕ → X) → X → Type 0
IsNotedInPart (Ok _) before now part after = now ≡ after
IsNotedInPart (Err _) before now part after = (now ≡ before) ⊎ ((n : ℕ) × (now ≡ part n))
