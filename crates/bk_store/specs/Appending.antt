-- Appending a record to a log that is held.
use Rattle.std.specs.Prelude.{◌≡◌, ℕ, ◌+◌, ◌<◌, ◌^◌, false, List, length, Some, Result, Ok, Err}
use Rattle.bk_record.specs.Location.{Place}
use Rattle.bk_log.specs.Writing as writers
use Rattle.bk_log.specs.Writing.{with_put}
use Rattle.bk_log.specs.declared.fault.LogFault.{LogFault}
use Rattle.bk_log.specs.declared.fault.LogFault.TheVariants as log_faults
use Rattle.bk_store.specs.Logs.{Log, log_after_failed_append}

-- the log has a writer that has not failed, and the record of this payload keeps it at most 2^32 -
-- 1 bytes long
pub record CanAppendRecord (log : Log) (payload : List ℕ) : Type 0 where
  pub w : writers.Writing
  pub writer : log.writer ≡ Some w
  pub going : w.failed ≡ false
  pub room : w.end + 4 + length payload < 2 ^ 32

-- the place after the length field of the next record
abbrev pub next_place : writers.Writing → Place
next_place w = record { log = w.log; at = w.end + 4 }

-- the log with one more record acknowledged
abbrev pub grown_log : Log → writers.Writing → List ℕ → Log
grown_log log w payload = record log { acknowledged = w.end + 4 + length payload; writer = Some (with_put w payload) }

-- the log after an append: out of memory leaves it, any other fault ends writing
abbrev pub put_log : Log → writers.Writing → List ℕ → Result Place LogFault → Log
put_log log w payload (Ok _) = grown_log log w payload
put_log log w payload (Err log_faults.Memory) = log
put_log log w payload (Err log_faults.Disk) = log_after_failed_append log
put_log log w payload (Err log_faults.Failed) = log_after_failed_append log
put_log log w payload (Err log_faults.Odd) = log_after_failed_append log

-- the record is at the end of the log, and a writer that has not failed does not return `Failed`
abbrev pub IsPutAt : writers.Writing → Result Place LogFault → Type 0
IsPutAt w (Ok place) = place ≡ next_place w
IsPutAt w (Err log_faults.Failed) = ⊥
IsPutAt w (Err log_faults.Memory) = Unit {0}
IsPutAt w (Err log_faults.Disk) = Unit {0}
IsPutAt w (Err log_faults.Odd) = Unit {0}
