-- A log that is being written: the state of its writer, and the transitions of `create` and `put`.
-- Read `Writing`, `Writes`, `WriterPutTransition`.
use Rattle.std.specs.Prelude.{◌≡◌, ℕ, ◌+◌, ◌*◌, ◌≤◌, ◌<◌, ◌^◌, Bool, true, false, List, [], length, take, Result, Ok, Err, IsSome, IsNone}
use Rattle.std.specs.List.{AllByRecursion}
use Rattle.std.proofs.Common.{refl}
use Rattle.std.specs.Coded.{Coded, code_by, coded×, coded_ℕ, coded_bool}
use Rattle.std.specs.FinMap as map
use Rattle.bk_record.specs.Location.{Place}
use Rattle.bk_record.specs.Record.{record_of, key_of}
use Rattle.bk_record.specs.Files.{Files, header_length}
use Rattle.bk_disk.specs.Disk.{IsFile, files_after_append}
use Rattle.bk_log.specs.declared.fault.LogFault.{LogFault}
use Rattle.bk_log.specs.declared.fault.LogFault.TheVariants.{Disk, Failed, Memory, Odd}
use Rattle.bk_log.specs.declared.fault.CreateFault.{CreateFault}
use Rattle.bk_log.specs.Sizes.{Sizes, sizes_code, size_in, with_record, sizes_of}
use Rattle.bk_head.specs.Header.{empty_header}
use Rattle.bk_log.specs.Text.{IsLogText}

-- log id, length in bytes, number of records, their bytes by ledger, and whether a write failed
pub record Writing : Type 0 where
  pub log : ℕ
  pub end : ℕ
  pub count : ℕ
  pub sizes : Sizes
  pub failed : Bool

-- encoding as the tuple of the fields
abbrev pub writing_code : Coded Writing
writing_code =
    code_by (ℕ × (ℕ × (ℕ × (Sizes × Bool)))) (coded× coded_ℕ (coded× coded_ℕ (coded× coded_ℕ (coded× sizes_code coded_bool))))
    (λ w. (w.log, (w.end, (w.count, (w.sizes, w.failed)))))
    (λ p. record { log = p.0; end = p.1.0; count = p.1.1.0; sizes = p.1.1.1.0; failed = p.1.1.1.1 }) (λ _. refl)

-- writer of a log that was just created
abbrev pub new_writing : ℕ → Writing
new_writing log = record { log = log; end = header_length; count = 0; sizes = map.empty; failed = false }

-- after the record of a payload was written
abbrev pub with_put : Writing → List ℕ → Writing
with_put w payload = record w {
  end = w.end + 4 + length payload;
  count = w.count + 1;
  sizes = with_record w.sizes payload;
}

-- after a write that failed
abbrev pub writer_after_failure : Writing → Writing
writer_after_failure w = record w { failed = true }

-- `put`, on any disk: location of the payload, and state of the writer
abbrev pub Puts : Writing → List ℕ → Result Place LogFault → Writing → Type 0
Puts w payload (Ok place) w' = (w.failed ≡ false) × (place ≡ record { log = w.log; at = w.end + 4 }) × (w' ≡ with_put w payload)
Puts w payload (Err Disk) w' = (w.failed ≡ false) × (w' ≡ writer_after_failure w)
Puts w payload (Err Failed) w' = (w.failed ≡ true) × (w' ≡ w)
Puts w payload (Err Memory) w' = (w.failed ≡ false) × (w' ≡ w)
Puts w payload (Err Odd) w' = (w.failed ≡ false) × (w' ≡ writer_after_failure w)

-- `put`, on an honest disk: the record at the end of the log. A failing device leaves a prefix of
-- it, possibly all.
abbrev pub WriterPutTransition : Files → Writing → List ℕ → Result Place LogFault → Files → Type 0
WriterPutTransition files w payload (Ok _) files' = files' ≡ files_after_append files w.log (record_of payload)
WriterPutTransition files w payload (Err Disk) files' = (n : ℕ) × (files' ≡ files_after_append files w.log (take n (record_of payload)))
WriterPutTransition files w payload (Err Failed) files' = files' ≡ files
WriterPutTransition files w payload (Err Memory) files' = files' ≡ files
WriterPutTransition files w payload (Err Odd) files' = ⊥

-- Files after a failed `create`. If it created the file, the file has a prefix of the header;
-- otherwise the files are unchanged. `Memory` only if there was no such file.
abbrev pub CreateFails : Files → ℕ → Bool → LogFault → Files → Type 0
CreateFails files log true Disk files' = IsNone (map.get files log) × ((n : ℕ) × (files' ≡ map.insert files log (take n empty_header)))
CreateFails files log true Memory files' = IsNone (map.get files log) × (files' ≡ map.insert files log [])
CreateFails files log false Disk files' = files' ≡ files
CreateFails files log false Memory files' = IsNone (map.get files log) × (files' ≡ files)
CreateFails files log false Odd files' = IsSome (map.get files log) × (files' ≡ files)
CreateFails files log true Odd files' = ⊥
CreateFails files log _ Failed files' = ⊥

-- `create`, on an honest disk: a new file with the header of a new log
abbrev pub WriterCreateTransition : {W : Type 0} → Files → ℕ → Result W CreateFault → Files → Type 0
WriterCreateTransition files log (Ok _) files' = IsNone (map.get files log) × (files' ≡ map.insert files log empty_header)
WriterCreateTransition files log (Err f) files' = CreateFails files log f.made f.fault files'

-- The writer is that of a log whose file exists and has its length. The file is a header and
-- records with keys, and the writer has their number and their sizes.
pub record Writes (files : Files) (w : Writing) : Type 0 where
  pub file : List ℕ
  pub records : List (ℕ × List ℕ)
  pub stands : IsFile files w.log file
  pub long : w.end ≡ length file
  pub text : IsLogText file records
  pub counted : w.count ≡ length records
  pub sized : w.sizes ≡ sizes_of records
  pub keyed : AllByRecursion (λ r. IsSome (key_of r.1)) records

-- Type invariant of `LogWriter`. Each record has at least 20 bytes, and no ledger has more bytes
-- than the log. There are no more ledgers than records, each with a valid id.
pub record IsCounted (log end count : ℕ) (sizes : Sizes) : Type 0 where
  pub named : log < 2 ^ 31
  pub room : header_length + 20 * count ≤ end
  pub within : (ledger : ℕ) → size_in sizes ledger ≤ end
  pub few : map.len sizes ≤ count
  pub keyed : (ledger : ℕ) → IsSome (map.get sizes ledger) → ledger < 2 ^ 63
