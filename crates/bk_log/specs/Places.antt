-- The record at a place of a log. Read `HasEntryAt`, then `Fetches`: the contract of `fetch`.
use Rattle.std.specs.Prelude.{◌≡◌, ℕ, ◌+◌, ◌-◌, ◌≤◌, List, drop, Some, Result, Ok, Err}
use Rattle.bk_record.specs.Key.{EntryKey}
use Rattle.bk_record.specs.Record.{key_of}
use Rattle.bk_record.specs.Body.{Body}
use Rattle.bk_record.specs.Piece.{BeginsWith}
use Rattle.bk_record.specs.Files.{header_length, records_of, In}
use Rattle.bk_record.specs.Spelling.{IsBytes}
use Rattle.bk_log.specs.declared.reading.ReadFault.{ReadFault}
use Rattle.bk_log.specs.declared.reading.ReadFault.TheVariants as reads
use Rattle.bk_log.specs.declared.fault.FetchFault.{FetchFault}
use Rattle.bk_log.specs.declared.fault.FetchFault.TheVariants.{Disk, NotThere, Memory, Odd}

-- After the header there is a whole record whose payload begins at this position of the file. If a
-- record of the log begins there, it is that record.
pub record HasRecordAt (file : List ℕ) (at : ℕ) (payload : List ℕ) : Type 0 where
  pub behind_header : header_length + 4 ≤ at
  pub begins : BeginsWith (drop (at - 4) file) payload

-- a record of the key has this payload at the position
pub record HasEntryAt (file : List ℕ) (at : ℕ) (key : EntryKey) (payload : List ℕ) : Type 0 where
  pub here : HasRecordAt file at payload
  pub keyed : key_of payload ≡ Some key

-- Errors of a fetch on an honest view: `NotThere` only if no whole record of the key has its
-- payload at the position, `Memory` only if one has.
abbrev pub FetchFails : List ℕ → ℕ → EntryKey → FetchFault → Type 0
FetchFails file at key Disk = Unit {0}
FetchFails file at key NotThere = (payload : List ℕ) → ¬ (HasEntryAt file at key payload)
FetchFails file at key Memory = (payload : List ℕ) × HasEntryAt file at key payload
FetchFails file at key Odd = ⊥

-- `fetch`: the payload of the record of the key at the position
abbrev pub Fetches : {T : Type 0} → (T → List ℕ) → List ℕ → ℕ → EntryKey → Result T FetchFault → Type 0
Fetches bytes file at key (Ok found) = HasEntryAt file at key (bytes found)
Fetches bytes file at key (Err fault) = FetchFails file at key fault

-- error of a fetch for an error of a read
abbrev pub fetch_fault_of_read : ReadFault → FetchFault
fetch_fault_of_read reads.Disk = Disk
fetch_fault_of_read reads.PastEnd = NotThere
fetch_fault_of_read reads.Memory = Memory
fetch_fault_of_read reads.Odd = Odd

-- There is at most one record at a position. A record of the log's list with its payload there is
-- that one; also of the computed list, if the file's numbers are bytes.
pub record StandsOnce (file : List ℕ) (at : ℕ) : Type 0 where
  pub one : (payload other : List ℕ) → HasRecordAt file at payload → HasRecordAt file at other → payload ≡ other
  pub listed : (payload rest : List ℕ) (records : List (ℕ × List ℕ)) → Body header_length (drop header_length file) records rest
      → In (at, payload) records → HasRecordAt file at payload
  pub computed : (payload : List ℕ) → IsBytes file → In (at, payload) (records_of file) → HasRecordAt file at payload
