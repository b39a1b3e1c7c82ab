-- Cutting a log after its last whole record, and clearing its header if the map that it names is not there, once the log is copied
-- aside; and sealing what is left. Read `CutsAndSeals` and `LosesNothing` first, at the end.
use Rattle.std.specs.Prelude.{◌≡◌, ◌≢◌, ℕ, ◌+◌, ◌<◌, ◌≤◌, false, List, [], length, take, drop, Option, Some, None, Result, Ok, Err, ◌⊎◌}
use Rattle.std.specs.Option.{option_map_or}
use Rattle.std.specs.FinMap as map
use Rattle.bk_record.specs.Body.{Body, IsBadAt, starts_with_record}
use Rattle.bk_record.specs.Files.{Files, header_length, records_of, rest_of}
use Rattle.bk_record.specs.Scan.{entries_of}
use Rattle.bk_disk.specs.Disk.{IsFile, files_after_patch, patched_file}
use Rattle.bk_head.specs.declared.header.Header.{Header}
use Rattle.bk_head.specs.Header.{IsHeader, patch_of}
use Rattle.bk_head.specs.Ledgers.{LedgersMap}
use Rattle.bk_log.specs.Sizes.{sizes_of}
use Rattle.bk_log.specs.declared.fault.ScanFault.{ScanFault}
use Rattle.bk_log.specs.declared.fault.ScanFault.TheVariants.{BadLength, Disk, Memory, Odd}
use Rattle.bk_inspect.specs.Copying.{HasAside, IsOther, LeavesCopies}
use Rattle.bk_inspect.specs.Heads.{NamesNoMap}
use Rattle.bk_inspect.specs.Maps.{IsMapIn}
use Rattle.bk_inspect.specs.Reading.{OfFile}
use Rattle.bk_inspect.specs.Sealing.{SealsOne, SealLeaves, open_header}
use Rattle.bk_inspect.specs.declared.cut.Cut.{Cut}
use Rattle.bk_inspect.specs.declared.cut.CutFault.{CutFault}
use Rattle.bk_inspect.specs.declared.cut.CutFault.TheVariants.{Unread, Taken, Blocked, Uncopied, Uncut}
use Rattle.bk_inspect.specs.declared.cut.NamedMap.{NamedMap}
use Rattle.bk_inspect.specs.declared.cut.NamedMap.TheVariants.{Old, Unnamed, Lost, Whole}
use Rattle.bk_inspect.specs.declared.fault.DirFault.{DirFault}
use Rattle.bk_inspect.specs.declared.header.Head.{Head}
use Rattle.bk_inspect.specs.declared.header.Head.TheVariants as heads

-- The log's last whole record ends at this position. Before it are the header and all of the log's records, so a scan of these
-- bytes alone finds them; at it no whole record begins.
pub record EndsWholeAt (file : List ℕ) (at : ℕ) : Type 0 where
  pub headed : header_length ≤ at
  pub within : at ≤ length file
  pub whole : Body header_length (drop header_length (take at file)) (records_of file) []
  pub found : records_of (take at file) ≡ records_of file
  pub stops : starts_with_record (drop at file) ≡ false

-- What a header names, in a log with these bytes. A map is lost only if the header is of version 1, names a map, and the bytes
-- from its place on are not the map of the log's entries, with its count.
abbrev pub NamesMap : List ℕ → Header → NamedMap → Type 0
NamesMap file header Old = header.version ≢ 1
NamesMap file header Unnamed = header ≡ open_header
NamesMap file header Lost = (header.version ≡ 1) × (¬ (NamesNoMap header) × ¬ (IsMapIn file header (Some (sizes_of (entries_of file)))))
NamesMap file header Whole = (header.version ≡ 1) × ((map : LedgersMap) × IsMapIn file header (Some map))

-- What is to be cut off a log: the bytes after its last whole record. What its header names is looked for in the bytes before.
pub record IsCutOf (file : List ℕ) (cut : Cut) : Type 0 where
  pub ends : EndsWholeAt file cut.at
  pub all : cut.at + cut.bytes ≡ length file
  pub headed : IsHeader (take header_length file) cut.header
  pub names : NamesMap (take cut.at file) cut.header cut.map

-- a header that is valid
abbrev pub IsWholeHead : Head → Header → Type 0
IsWholeHead head header = head ≡ heads.Whole header

-- the end of a scan of a log: torn bytes or a bad length after whole records
abbrev pub ScanEnds : List ℕ → Result ℕ ScanFault → Type 0
ScanEnds file (Ok torn) = Body header_length (drop header_length file) (records_of file) (rest_of file) × (torn ≡ length (rest_of file))
ScanEnds file (Err (BadLength at value)) = IsBadAt header_length (drop header_length file) at value
ScanEnds file (Err Disk) = Unit {0}
ScanEnds file (Err Memory) = Unit {0}
ScanEnds file (Err Odd) = Unit {0}

-- the files with a log cut to its first bytes; unchanged if there is no such log
abbrev pub cut_to : Files → ℕ → ℕ → Files
cut_to files log kept = option_map_or (λ file. map.insert files log (take kept file)) (map.get files log) files

-- `cut`: the log keeps its first bytes, or all of them if the call fails
abbrev pub CutsOff : {T F : Type 0} → Files → ℕ → ℕ → Result T F → Files → Type 0
CutsOff files log kept (Ok _) files' = files' ≡ cut_to files log kept
CutsOff files log kept (Err _) files' = (files' ≡ files) ⊎ (files' ≡ cut_to files log kept)

-- ---- cutting

-- a log's bytes with zeros where its header names a map, if that map is lost
abbrev pub cleared_if : NamedMap → List ℕ → List ℕ
cleared_if Old file = file
cleared_if Unnamed file = file
cleared_if Lost file = patched_file file (patch_of 0 0)
cleared_if Whole file = file

-- the same of files
abbrev pub clear_if : NamedMap → Files → ℕ → Files
clear_if Old files log = files
clear_if Unnamed files log = files
clear_if Lost files log = files_after_patch files log (patch_of 0 0)
clear_if Whole files log = files

-- any bytes where the header of a log names a map, but only if that map is lost
abbrev pub ClearsPart : NamedMap → Files → ℕ → Files → Type 0
ClearsPart map files log files' = (map ≡ Lost) × ((left : List ℕ) × ((length left ≡ 12) × (files' ≡ files_after_patch files log left)))

-- a log cut, and its header cleared if its map is lost; a part of this, or nothing, if the call fails
abbrev pub WritesCut : Files → ℕ → Cut → Result (Unit {0}) DirFault → Files → Type 0
WritesCut files log cut (Ok _) files' = files' ≡ clear_if cut.map (cut_to files log cut.at) log
WritesCut files log cut (Err fault) files' = (files' ≡ files)
    ⊎ ((files' ≡ cut_to files log cut.at) ⊎ ClearsPart cut.map (cut_to files log cut.at) log files')

-- there is something to cut or to clear
abbrev pub IsChange : Cut → Type 0
IsChange cut = (0 < cut.bytes) ⊎ (cut.map ≡ Lost)

-- All bytes of the log are aside, and are synced there. The log has its whole records, and its header names no
-- map that is lost.
pub record IsCutAside (files copies : Files) (log : ℕ) (cut : Cut) (files' copies' synced' : Files) : Type 0 where
  pub file : List ℕ
  pub stands : IsFile files log file
  pub cuts : IsCutOf file cut
  pub some : IsChange cut
  pub aside : HasAside copies log file copies'
  pub kept : map.get synced' log ≡ Some aside.copy
  pub now : files' ≡ map.insert files log (cleared_if cut.map (take cut.at file))

-- All bytes of the log are aside and synced there, and the log is cut or not; if its map is lost, the part of its header that is to
-- be cleared may have any bytes.
pub record IsLeftAside (files copies : Files) (log : ℕ) (files' copies' synced' : Files) : Type 0 where
  pub file : List ℕ
  pub cut : Cut
  pub stands : IsFile files log file
  pub cuts : IsCutOf file cut
  pub aside : HasAside copies log file copies'
  pub kept : map.get synced' log ≡ Some aside.copy
  pub left : (files' ≡ files) ⊎ ((files' ≡ map.insert files log (take cut.at file))
      ⊎ ((cut.map ≡ Lost) × ((left : List ℕ) × ((length left ≡ 12) × (files' ≡ map.insert files log (patched_file (take cut.at file) left))))))

-- Transition of a cut, on an honest disk with an honest place. A byte is changed only after a copy of all is synced.
abbrev pub CutTransition : Files → Files → ℕ → Result (Option Cut) CutFault → Files → Files → Files → Type 0
CutTransition files copies log (Ok None) files' copies' synced' = (files' ≡ files) × (copies' ≡ copies)
CutTransition files copies log (Ok (Some cut)) files' copies' synced' = IsCutAside files copies log cut files' copies' synced'
CutTransition files copies log (Err (Unread fault)) files' copies' synced' = (files' ≡ files) × (copies' ≡ copies)
CutTransition files copies log (Err Taken) files' copies' synced' = OfFile files log (IsOther copies log) × ((files' ≡ files) × (copies' ≡ copies))
CutTransition files copies log (Err Blocked) files' copies' synced' = (files' ≡ files) × (copies' ≡ copies)
CutTransition files copies log (Err (Uncopied fault)) files' copies' synced' = (files' ≡ files) × LeavesCopies files copies log copies'
CutTransition files copies log (Err (Uncut fault)) files' copies' synced' = IsLeftAside files copies log files' copies' synced'

-- a log that was cut is sealed, unless its header has no place for a map or names one that is there
abbrev pub EndsAs : NamedMap → Files → ℕ → Files → Type 0
EndsAs Old files log files' = files' ≡ files
EndsAs Unnamed files log files' = SealsOne files log files'
EndsAs Lost files log files' = SealsOne files log files'
EndsAs Whole files log files' = files' ≡ files

-- The log needed no cut and is sealed; or a copy of all its bytes is aside, the log is cut and its header cleared, and what is left
-- is sealed.
abbrev pub CutsAndSeals : Files → Files → ℕ → Files → Files → Files → Type 0
CutsAndSeals files copies log files' copies' synced' = (SealsOne files log files' × (copies' ≡ copies))
    ⊎ ((cut : Cut) × ((mid : Files) × (IsCutAside files copies log cut mid copies' synced' × EndsAs cut.map mid log files')))

-- What the command may leave: the log with all its bytes, and what a sealing leaves after them, where the header named no map;
-- or a synced copy of all its bytes aside, and the log as a cut, or a sealing after the cut, leaves it.
abbrev pub LosesNothing : Files → Files → ℕ → Files → Files → Files → Type 0
LosesNothing files copies log files' copies' synced' = (SealLeaves files log files' × LeavesCopies files copies log copies')
    ⊎ (((cut : Cut) × ((mid : Files) × (IsCutAside files copies log cut mid copies' synced' × SealLeaves mid log files')))
    ⊎ IsLeftAside files copies log files' copies' synced')
