-- The store after an opening, in terms of the files alone, and why an opening fails. Read
-- `IsOpened` and `OpenFails` first.
use Rattle.std.specs.Prelude.{◌≡◌, ◌⊎◌, ℕ, ◌+◌, ◌<◌, ◌≤◌, ◌^◌, Bool, IsTrue, List, length, take, drop, Some, None, IsSome}
use Rattle.std.specs.FinMap as finite
use Rattle.bk_record.specs.Files.{Files, file_of, header_length}
use Rattle.bk_record.specs.Body.{IsBadAt}
use Rattle.bk_disk.specs.Disk.{IsFile, view_end}
use Rattle.bk_head.specs.Header.{HasHeader, HeaderFault}
use Rattle.bk_log.specs.Growing.{HasNoBadLength}
use Rattle.bk_cache.specs.Caches as caches
use Rattle.bk_store.specs.Entries.{IsIndexOf}
use Rattle.bk_store.specs.Limits.{IsAllowed}
use Rattle.bk_store.specs.Logs.{View, Logs, found_log}
use Rattle.bk_store.specs.Ledgers.{opened_ledgers}
use Rattle.bk_store.specs.Fronts.{fronts_at}
use Rattle.bk_store.specs.State.{State}
use Rattle.bk_store.specs.Transitions.{valid_ledgers}
use Rattle.bk_store.specs.declared.settings.Settings.{Settings}
use Rattle.bk_store.specs.declared.answer.LogCause.{LogCause}
use Rattle.bk_store.specs.declared.answer.LogCause.TheVariants as causes
use Rattle.bk_store.specs.declared.answer.OpenFault.{OpenFault}
use Rattle.bk_store.specs.declared.answer.OpenFault.TheVariants as open_faults

-- ---- one file

-- A log with enough bytes for a header has one, of version 0 or 1 (this project's rule).
abbrev pub IsHeaded : List ℕ → Type 0
IsHeaded file = header_length ≤ length file → HasHeader (take header_length file)

-- a file on which a store opens
pub record Opens (file : List ℕ) : Type 0 where
  pub short : length file < 2 ^ 32
  pub headed : IsHeaded file
  pub whole : HasNoBadLength file

-- why a file cannot be read; its header is judged before its records
abbrev pub HasLogCause : List ℕ → LogCause → Type 0
HasLogCause file (causes.Header fault) = (header_length ≤ length file) × HeaderFault (take header_length file) fault
HasLogCause file (causes.BadLength at value) = IsHeaded file × IsBadAt header_length (drop header_length file) at value

-- why an honest disk rejects the log of this id and file
abbrev pub FileFails : ℕ → List ℕ → OpenFault → Type 0
FileFails id file open_faults.Settings = ⊥
FileFails id file open_faults.Disk = Unit {0}
FileFails id file open_faults.Memory = Unit {0}
FileFails id file open_faults.LogsFull = ⊥
FileFails id file (open_faults.Log log cause) = (log ≡ id) × (length file < 2 ^ 32) × HasLogCause file cause
FileFails id file (open_faults.TooLong log) = (log ≡ id) × (2 ^ 32 ≤ length file)
FileFails id file open_faults.Odd = ⊥

-- ---- all files

-- one of the files is rejected, and all before it open
pub record FirstFails (files : Files) (fault : OpenFault) : Type 0 where
  pub id : ℕ
  pub file : List ℕ
  pub stands : IsFile files id file
  pub fails : FileFails id file fault
  pub before : (earlier : ℕ) (other : List ℕ) → earlier < id → IsFile files earlier other → Opens other

-- there are slots for all logs
abbrev pub HasSlots : Files → Settings → Type 0
HasSlots files settings = finite.len files ≤ settings.slots

-- Why an opening on an honest disk fails: first the settings, then the number of logs, then each
-- log by rising id. A failing device and out of memory can occur at any point.
abbrev pub OpenFails : Files → Settings → OpenFault → Type 0
OpenFails files settings open_faults.Settings = ¬ (IsAllowed settings)
OpenFails files settings open_faults.Disk = IsAllowed settings
OpenFails files settings open_faults.Memory = IsAllowed settings
OpenFails files settings open_faults.LogsFull = IsAllowed settings × (settings.slots < finite.len files)
OpenFails files settings (open_faults.Log id cause) = IsAllowed settings × HasSlots files settings × FirstFails files (open_faults.Log id cause)
OpenFails files settings (open_faults.TooLong id) = IsAllowed settings × HasSlots files settings × FirstFails files (open_faults.TooLong id)
OpenFails files settings open_faults.Odd = ⊥

-- The device never fails: the failure count of every disk of this type is 0. If views are sound
-- too, no opening fails with `Disk`.
abbrev pub NeverFails : {D : Type 0} → (D → ℕ) → Type 0
NeverFails {D} failures = (disk : D) → failures disk ≡ 0

-- ---- the store

-- a log found is held with a view of its whole file, all of it acknowledged
pub record IsHeldWhole (logs : Logs) (id : ℕ) (file : List ℕ) : Type 0 where
  pub view : View
  pub slot : ℕ
  pub held : finite.get logs id ≡ Some (found_log view slot (view_end file))
  pub honest : IsTrue view.is_honest
  pub shows : view.bytes ≡ file

-- the next id is one more than the largest, 0 if there is no file
pub record IsNextId (files : Files) (next : ℕ) : Type 0 where
  pub above : (id : ℕ) → IsSome (finite.get files id) → id < next
  pub least : (next ≡ 0) ⊎ ((last : ℕ) × (next ≡ last + 1) × IsSome (finite.get files last))

-- What the files give on an honest disk: each opens, the index is that of all their entries,
-- exactly their logs are held, and the next id is free.
pub record HoldsFiles (files : Files) (s : State) : Type 0 where
  pub same : s.files ≡ files
  pub opens : (id : ℕ) (file : List ℕ) → IsFile files id file → Opens file
  pub index : IsIndexOf (file_of files) s.ledgers.dead s.index
  pub logs : (id : ℕ) (file : List ℕ) → IsFile files id file → IsHeldWhole s.logs id file
  pub none : (id : ℕ) → finite.get files id ≡ None → finite.get s.logs id ≡ None
  pub next : IsNextId files s.next

-- A store after opening: these settings, nothing cached, no flush, these ledgers deleted and none
-- fenced, an empty trail with both fronts at its start, and what the files give.
pub record IsOpened (honest : Bool) (files : Files) (settings : Settings) (dead : List ℕ) (s : State) : Type 0 where
  pub settings_are : s.settings ≡ settings
  pub caches_are : s.caches ≡ caches.new_caches settings.cache_limit settings.recent
  pub places_are : s.places ≡ finite.empty
  pub ledgers_are : s.ledgers ≡ opened_ledgers (valid_ledgers dead)
  pub fronts_are : s.fronts ≡ fronts_at 0
  pub idle : s.job ≡ None
  pub holds : IsTrue honest → HoldsFiles files s
