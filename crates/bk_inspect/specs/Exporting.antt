-- What an export of records writes if its status is 0. Read `IsExport` first.
use Rattle.std.specs.Prelude.{◌≡◌, ℕ, ◌-◌, ◌↔◌, List, map, take, drop, flat_map, Option, Some, None, IsNone}
use Rattle.std.specs.Ordering.{nat_cmp}
use Rattle.std.specs.List.Sorted.{IsStrictlySortedBy}
use Rattle.std.specs.FinMap as finite
use Rattle.std.specs.Io.KnownBytes.{Appends}
use Rattle.bk_record.specs.Files.{Files, In, file_of}
use Rattle.bk_record.specs.Record.{record_of}
use Rattle.bk_record.specs.Scan.{scan_of}
use Rattle.bk_log.specs.declared.found.Found.{Found}
use Rattle.bk_inspect.specs.declared.command.EntryRange.{EntryRange}
use Rattle.bk_inspect.specs.declared.entries.Standing.{Standing}
use Rattle.bk_inspect.specs.declared.export.DataForm.{DataForm}
use Rattle.bk_inspect.specs.declared.export.DataForm.TheVariants.{Hex, Raw}
use Rattle.bk_inspect.specs.declared.form.Form.{Form}
use Rattle.bk_inspect.specs.declared.form.Form.TheVariants.{Text, Json}
use Rattle.bk_inspect.specs.LastRecords.{IsInRange, key_in}

-- the payload that the files have for an entry of the range: that of its last record
abbrev pub IsExported : EntryRange → Files → ℕ → List ℕ → Type 0
IsExported range files entry payload = IsInRange range entry × (finite.get (scan_of files) (key_in range entry) ≡ Some payload)

-- The records of all entries of the range that the files have, each entry once, by rising id.
pub record IsExport (range : EntryRange) (files : Files) (bytes : List ℕ) : Type 0 where
  pub entries : List (ℕ × List ℕ)
  pub rising : IsStrictlySortedBy nat_cmp (map (λ e. e.0) entries)
  pub each : (entry : ℕ) (payload : List ℕ) → In (entry, payload) entries ↔ IsExported range files entry payload
  pub are : bytes ≡ flat_map (λ e. record_of e.1) entries

-- the bytes written, as far as the clauses say something of them: those of records
abbrev pub recorded : Form → DataForm → Option (List ℕ) → Option (List ℕ)
recorded Json kind contents = None
recorded Text Raw contents = contents
recorded Text Hex contents = None

-- the bytes of a record in a log
abbrev pub record_in : List ℕ → Found → List ℕ
record_in file found = take found.size (drop (found.at - 4) file)

-- the bytes of some records in their logs, one after another
abbrev pub records_in : Files → List (ℕ × Standing) → List ℕ
records_in files records = flat_map (λ e. record_in (file_of files e.1.log) e.1.found) records

-- all of the records are written, or one of them is in a log that is not there
abbrev pub WritesAll : Files → List (ℕ × Standing) → Option ℕ → Option (List ℕ) → Option (List ℕ) → Type 0
WritesAll files records None before now = Appends before now (records_in files records)
WritesAll files records (Some entry) before now = (standing : Standing) × In (entry, standing) records × IsNone (finite.get files standing.log)
