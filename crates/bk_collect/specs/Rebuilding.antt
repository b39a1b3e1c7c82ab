-- How the entries of the published part of a log are added to an index.
use Rattle.std.specs.Prelude.{◌≡◌, ◌⊎◌, ℕ, ◌≤◌, ◌^◌, IsTrue, List, [], ◌∷◌, Option, Some, None}
use Rattle.std.specs.FinMap as finite
use Rattle.bk_record.specs.Key.{EntryKey}
use Rattle.bk_record.specs.Location.{Place}
use Rattle.bk_record.specs.Record.{key_of}
use Rattle.bk_record.specs.Scan.{Ledgers, entries_of}
use Rattle.bk_log.specs.declared.found.Found.{Found}
use Rattle.bk_log.specs.declared.fault.ScanFault.{ScanFault}
use Rattle.bk_log.specs.declared.fault.ScanFault.TheVariants as scan_faults
use Rattle.bk_record.specs.Keyed.{Places}
use Rattle.bk_store.specs.Indexing.{with_key}
use Rattle.bk_store.specs.Logs.{View}
use Rattle.bk_store.specs.declared.answer.LogCause.TheVariants as causes
use Rattle.bk_collect.specs.declared.answer.CollectFault.{CollectFault}
use Rattle.bk_collect.specs.declared.answer.CollectFault.TheVariants as faults

-- the fault of a rebuild for a fault of a scan; a bad length is reported with the log
abbrev pub collect_fault_of : ℕ → ScanFault → CollectFault
collect_fault_of id (scan_faults.BadLength at value) = faults.Log id (causes.BadLength at value)
collect_fault_of id scan_faults.Disk = faults.Disk
collect_fault_of id scan_faults.Memory = faults.Memory
collect_fault_of id scan_faults.Odd = faults.Odd

-- adds one record at this position; a foreign record has no key
abbrev pub with_record_at : Ledgers → ℕ → Places → ℕ → Option EntryKey → Places
with_record_at dead log index at None = index
with_record_at dead log index at (Some key) = with_key dead index key (record { log = log; at = at })

-- adds the records of a log, in order
abbrev pub with_records : Ledgers → ℕ → Places → List (ℕ × List ℕ) → Places
with_records dead log index [] = index
with_records dead log index (r ∷ later) = with_records dead log (with_record_at dead log index r.0 (key_of r.1)) later

-- an entry could not be added: its position exceeds what a location can hold, or out of memory
abbrev pub EntryFails : Found → CollectFault → Type 0
EntryFails found faults.Disk = ⊥
EntryFails found faults.Memory = Unit {0}
EntryFails found (faults.Log id cause) = ⊥
EntryFails found faults.Odd = 2 ^ 32 ≤ found.at

-- The index after one log: each key points to where it did, or into the log. If the view is honest,
-- all entries of the log were added, in order.
pub record TakesIn (dead : Ledgers) (log : ℕ) (view : View) (old new : Places) : Type 0 where
  pub sent : (key : EntryKey) (place : Place) → finite.get new key ≡ Some place → (finite.get old key ≡ Some place) ⊎ (place.log ≡ log)
  pub taken : IsTrue view.is_honest → new ≡ with_records dead log old (entries_of view.bytes)
