-- Sealing a log whose header names no map. Read `IsSealedBy` first.
use Rattle.std.specs.Prelude.{◌≡◌, ℕ, ◌≤◌, true, false, List, [], length, take, drop, Result, Ok, Err, pos, ◌⊎◌}
use Rattle.std.specs.FinMap as map
use Rattle.bk_record.specs.Body.{Body}
use Rattle.bk_record.specs.Files.{Files, header_length, records_of}
use Rattle.bk_record.specs.Scan.{entries_of}
use Rattle.bk_disk.specs.Disk.{IsFile, files_after_append, files_after_patch, view_end}
use Rattle.bk_head.specs.declared.header.Header.{Header}
use Rattle.bk_head.specs.Header.{IsHeader, patch_of}
use Rattle.bk_head.specs.Ledgers.{LedgersMap}
use Rattle.bk_head.specs.Written.{IsWritable, written_map}
use Rattle.bk_log.specs.Sizes.{sizes_of}
use Rattle.bk_log.specs.Writing.{Writing}
use Rattle.bk_log.specs.Sealing.{map_fits, files_after_seal, IsHalfSealed}
use Rattle.bk_inspect.specs.declared.fault.DirFault.{DirFault}
use Rattle.bk_inspect.specs.declared.header.Head.{Head}
use Rattle.bk_inspect.specs.declared.header.Head.TheVariants.{Short, Bad, Whole}
use Rattle.bk_inspect.specs.declared.seal.Plan.{Plan}
use Rattle.bk_inspect.specs.declared.seal.SealFault.{SealFault}
use Rattle.bk_inspect.specs.declared.seal.SealFault.TheVariants.{Refused, Broken}
use Rattle.bk_inspect.specs.declared.seal.SealedLog.{SealedLog}

-- the header of a log to be sealed: of version 1, naming no map
abbrev pub open_header : Header
open_header = record { version = 1; map_offset = pos 0; count = pos 0 }

abbrev pub IsOpenHead : Head → Type 0
IsOpenHead Short = ⊥
IsOpenHead (Bad fault) = ⊥
IsOpenHead (Whole header) = header ≡ open_header

-- The log has whole records up to its end, and these are the bytes of its entries by ledger.
pub record AreSizesOf (file : List ℕ) (sizes : LedgersMap) : Type 0 where
  pub whole : Body header_length (drop header_length file) (records_of file) []
  pub are : sizes ≡ sizes_of (entries_of file)

-- what is to be written to a log with these bytes
pub record IsPlan (file : List ℕ) (plan : Plan) : Type 0 where
  pub whole : Body header_length (drop header_length file) (records_of file) []
  pub offset : plan.offset ≡ view_end file
  pub ledgers : plan.ledgers ≡ map.len (sizes_of (entries_of file))
  pub bytes : plan.map.items ≡ written_map (sizes_of (entries_of file))
  pub writable : IsWritable (sizes_of (entries_of file))

-- bytes appended to a log; a part of them, or none, if the call fails
abbrev pub AppendsMap : Files → ℕ → List ℕ → Result (Unit {0}) DirFault → Files → Type 0
AppendsMap files log bytes (Ok _) files' = files' ≡ files_after_append files log bytes
AppendsMap files log bytes (Err fault) files' = (files' ≡ files) ⊎ ((n : ℕ) × (files' ≡ files_after_append files log (take n bytes)))

-- a log's header patched; with any bytes there, or unchanged, if the call fails
abbrev pub PatchesHeader : Files → ℕ → List ℕ → Result (Unit {0}) DirFault → Files → Type 0
PatchesHeader files log bytes (Ok _) files' = files' ≡ files_after_patch files log bytes
PatchesHeader files log bytes (Err fault) files' = (files' ≡ files) ⊎ ((left : List ℕ) × ((length left ≡ 12) × (files' ≡ files_after_patch files log left)))

-- what is left if a plan cannot be written: the files unchanged; a part of the map, or all of it; or the whole map and any bytes
-- in the patched part of the header
abbrev pub LeavesPart : Files → ℕ → Plan → Files → Type 0
LeavesPart files log plan files' = (files' ≡ files)
    ⊎ (((n : ℕ) × (files' ≡ files_after_append files log (take n plan.map.items)))
    ⊎ ((left : List ℕ) × ((length left ≡ 12) × (files' ≡ files_after_patch (files_after_append files log plan.map.items) log left))))

-- the map appended, and the header patched
abbrev pub WritesPlan : Files → ℕ → Plan → Result (Unit {0}) DirFault → Files → Type 0
WritesPlan files log plan (Ok _) files' = files' ≡ files_after_patch (files_after_append files log plan.map.items) log (patch_of plan.offset plan.ledgers)
WritesPlan files log plan (Err fault) files' = LeavesPart files log plan files'

-- the writer that a log with these bytes would have: its length, its entries and their sizes by ledger
abbrev pub writer_of : ℕ → List ℕ → Writing
writer_of log file = record { log = log; end = length file; count = length (entries_of file); sizes = sizes_of (entries_of file); failed = false }

-- A log that can be sealed: its header is of version 1 and names no map, whole records follow up to its end, and the map can be
-- written and fits after them.
pub record IsSealable (log : ℕ) (file : List ℕ) : Type 0 where
  pub long : header_length ≤ length file
  pub headed : IsHeader (take header_length file) open_header
  pub whole : Body header_length (drop header_length file) (records_of file) []
  pub writable : IsWritable (sizes_of (entries_of file))
  pub fits : map_fits (writer_of log file) ≡ true

-- A log that could be sealed is sealed, as its writer would have done: the map of the sizes of its entries by ledger follows its
-- old bytes, and the header names its position and its number of ledgers.
pub record IsSealedBy (files : Files) (log : ℕ) (done : SealedLog) (files' : Files) : Type 0 where
  pub file : List ℕ
  pub stands : IsFile files log file
  pub sealable : IsSealable log file
  pub now : files' ≡ files_after_seal files (writer_of log file)
  pub offset : done.offset ≡ length file
  pub ledgers : done.ledgers ≡ map.len (sizes_of (entries_of file))

-- a log that could be sealed is sealed in part
pub record IsBroken (files : Files) (log : ℕ) (files' : Files) : Type 0 where
  pub file : List ℕ
  pub stands : IsFile files log file
  pub sealable : IsSealable log file
  pub now : IsHalfSealed files (writer_of log file) files'

-- Transition of a sealing on an honest disk: a refusal leaves the files unchanged, another fault may leave the log sealed in part.
abbrev pub SealCommandTransition : Files → ℕ → Result SealedLog SealFault → Files → Type 0
SealCommandTransition files log (Ok done) files' = IsSealedBy files log done files'
SealCommandTransition files log (Err (Refused why)) files' = files' ≡ files
SealCommandTransition files log (Err (Broken fault)) files' = (files' ≡ files) ⊎ IsBroken files log files'

-- the log is sealed
abbrev pub SealsOne : Files → ℕ → Files → Type 0
SealsOne files log files' = (done : SealedLog) × IsSealedBy files log done files'

-- what the command may leave: the files unchanged, the log sealed, or the log sealed in part
abbrev pub SealLeaves : Files → ℕ → Files → Type 0
SealLeaves files log files' = (files' ≡ files) ⊎ (SealsOne files log files' ⊎ IsBroken files log files')
