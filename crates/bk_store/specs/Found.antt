-- How an opening tallies the logs that it finds: an entry (`with_entry`), a scan (`IsScanned`), a
-- log (`IsTaken`), all logs (`AreTaken`).
use Rattle.std.specs.Prelude.{◌≡◌, ℕ, ◌+◌, ◌<◌, ◌≤◌, ◌^◌, Bool, IsTrue, List, [], ◌∷◌, length, map, sum_by, if◌then◌else◌, Some, IfSome}
use Rattle.std.specs.List.{AllByRecursion}
use Rattle.std.specs.FinMap as finite
use Rattle.std.specs.FinSet as set
use Rattle.bk_record.specs.Key.{EntryKey}
use Rattle.bk_record.specs.Location.{Place}
use Rattle.bk_record.specs.Record.{key_of}
use Rattle.bk_record.specs.Files.{Files, file_of, header_length, In}
use Rattle.bk_record.specs.Scan.{entries_of}
use Rattle.bk_disk.specs.Disk.{IsFile, view_end}
use Rattle.bk_disk.specs.Durable.{IsDurable}
use Rattle.bk_disk.specs.declared.fault.DiskFault.{DiskFault}
use Rattle.bk_disk.specs.declared.fault.DiskFault.TheVariants as disk_faults
use Rattle.bk_log.specs.Growing.{HasNoBadLength}
use Rattle.bk_log.specs.declared.fault.ScanFault.{ScanFault}
use Rattle.bk_log.specs.declared.fault.ScanFault.TheVariants as scan_faults
use Rattle.bk_log.specs.declared.found.Found.{Found}
use Rattle.bk_accounts.specs.Book.{Book, named_in, after_open, after_ready, after_count, after_count_dead, after_name}
use Rattle.bk_store.specs.Indexing.{with_key}
use Rattle.bk_store.specs.Logs.{View, Log, Logs, found_log}
use Rattle.bk_store.specs.Opening.{Opens}
use Rattle.bk_store.specs.declared.answer.LogCause.TheVariants as causes
use Rattle.bk_store.specs.declared.answer.OpenFault.{OpenFault}
use Rattle.bk_store.specs.declared.answer.OpenFault.TheVariants as open_faults
use Rattle.bk_store.specs.declared.open.tally.Tally.{Tally}

-- ---- faults

-- the fault of an opening for a fault of the disk: out of memory and a failed device stay, all else
-- is odd
abbrev pub open_fault_of : DiskFault → OpenFault
open_fault_of disk_faults.Disk = open_faults.Disk
open_fault_of disk_faults.Memory = open_faults.Memory
open_fault_of disk_faults.Exists = open_faults.Odd
open_fault_of disk_faults.NoLog = open_faults.Odd
open_fault_of disk_faults.PastEnd = open_faults.Odd
open_fault_of disk_faults.TooLong = open_faults.Odd

-- the fault of an opening for a fault of a scan; a bad length is reported with the log
abbrev pub open_fault_of_scan : ℕ → ScanFault → OpenFault
open_fault_of_scan id (scan_faults.BadLength at value) = open_faults.Log id (causes.BadLength at value)
open_fault_of_scan id scan_faults.Disk = open_faults.Disk
open_fault_of_scan id scan_faults.Memory = open_faults.Memory
open_fault_of_scan id scan_faults.Odd = open_faults.Odd

-- ---- entries

-- Tallies one entry of a log: its record is counted and, if its ledger is live, its key points to
-- it.
abbrev pub with_entry : ℕ → Tally → Found → Tally
with_entry log t found = record t {
  index = with_key t.dead t.index found.key (record { log = log; at = found.at });
  accounts = if set.contains t.dead found.key.ledger
      then after_count_dead t.accounts log found.size
      else after_count (after_ready t.accounts log found.key.ledger) log found.key.ledger found.size;
}

-- tallies entries of a log, in order
abbrev pub with_entries : ℕ → Tally → List Found → Tally
with_entries log t [] = t
with_entries log t (found ∷ later) = with_entries log (with_entry log t found) later

-- the bytes of the records of entries
abbrev pub bytes_found : List Found → ℕ
bytes_found founds = sum_by (λ f. f.size) founds

-- the scan returned the entry of this record, with its place
abbrev pub IsFoundAt : ℕ × List ℕ → Found → Type 0
IsFoundAt r found = (found.at ≡ r.0) × (key_of r.1 ≡ Some found.key) × (found.size ≡ 4 + length r.1)

-- the scan returned the entries of these records, in order
abbrev pub AreFoundAt : List (ℕ × List ℕ) → List Found → Type 0
AreFoundAt [] [] = Unit {0}
AreFoundAt [] (found ∷ later) = ⊥
AreFoundAt (r ∷ records) [] = ⊥
AreFoundAt (r ∷ records) (found ∷ later) = IsFoundAt r found × AreFoundAt records later

-- A scan tallied entries of a log, no more than fit before its end. If the view is honest, they are
-- those of its file.
pub record IsScanned (log end : ℕ) (honest : Bool) (file : List ℕ) (old new : Tally) : Type 0 where
  pub founds : List Found
  pub taken : new ≡ with_entries log old founds
  pub fits : header_length + bytes_found founds ≤ end
  pub stand : IsTrue honest → AreFoundAt (entries_of file) founds
  pub whole : IsTrue honest → HasNoBadLength file

-- ---- logs

-- A log that was read: its id, its slot, its view with its end, and the entries found.
pub record LogRead : Type 0 where
  pub id : ℕ
  pub slot : ℕ
  pub view : View
  pub end : ℕ
  pub founds : List Found

-- on an honest disk a log was read whole, and its file opens
pub record IsReadWhole (files : Files) (r : LogRead) : Type 0 where
  pub stands : IsFile files r.id r.view.bytes
  pub honest : IsTrue r.view.is_honest
  pub end_is : r.end ≡ view_end r.view.bytes
  pub found : AreFoundAt (entries_of r.view.bytes) r.founds
  pub opens : Opens r.view.bytes

-- a log was read, and its entries fit before its end
pub record IsRead (honest : Bool) (files : Files) (r : LogRead) : Type 0 where
  pub fits : header_length + bytes_found r.founds ≤ r.end
  pub whole : IsTrue honest → IsReadWhole files r

-- tallies one log
abbrev pub with_read : Tally → LogRead → Tally
with_read t r = with_entries r.id (record t { accounts = after_open t.accounts r.id }) r.founds

-- tallies several logs, in order
abbrev pub with_reads : Tally → List LogRead → Tally
with_reads t [] = t
with_reads t (r ∷ later) = with_reads (with_read t r) later

-- the logs that are then held
abbrev pub logs_with : Logs → List LogRead → Logs
logs_with logs [] = logs
logs_with logs (r ∷ later) = logs_with (finite.insert logs r.id (found_log r.view r.slot r.end)) later

-- One log was tallied, and is held in this slot.
pub record IsTaken (honest : Bool) (files : Files) (id slot : ℕ) (log : Log) (old new : Tally) : Type 0 where
  pub read : LogRead
  pub own : read.id ≡ id
  pub seat : read.slot ≡ slot
  pub reads : IsRead honest files read
  pub log_is : log ≡ found_log read.view read.slot read.end
  pub taken : new ≡ with_read old read

-- rising ids from a first one on; the next id is past them all
abbrev pub AreIds : ℕ → List ℕ → ℕ → Type 0
AreIds first [] next = next ≡ first
AreIds first (id ∷ ids) next = (first ≤ id) × (id < 2 ^ 31) × AreIds (id + 1) ids next

-- The logs of these ids were tallied, and are held.
pub record AreTaken (honest : Bool) (files : Files) (ids : List ℕ) (next : ℕ) (old new : Tally) (before held : Logs) : Type 0 where
  pub reads : List LogRead
  pub ids_are : map (λ r. r.id) reads ≡ ids
  pub each : AllByRecursion (IsRead honest files) reads
  pub rising : AreIds 0 ids next
  pub taken : new ≡ with_reads old reads
  pub held_are : held ≡ logs_with before reads

-- the whole file of each of these logs is durable
abbrev pub AllDurable : Files → Files → List ℕ → Type 0
AllDurable files kept ids = (id : ℕ) → In id ids → IsDurable kept id (file_of files id)

-- ---- counts of index entries

-- no account counts an index entry
abbrev pub AreUnnamed : Book → Type 0
AreUnnamed book = (log : ℕ) → IfSome (named_in book log) (λ named. named ≡ 0)

-- each entry of the index is counted in the account of its log
abbrev pub named_by : List (EntryKey × Place) → Book → Book
named_by [] book = book
named_by (e ∷ later) book = named_by later (after_name book e.1.log)

abbrev pub with_names : Tally → Tally
with_names t = record t { accounts = named_by (finite.entries t.index) t.accounts }
