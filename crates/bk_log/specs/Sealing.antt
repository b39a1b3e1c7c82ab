-- A sealed log: the ledgers map after its records, and its position in the header. Read
-- `WriterSealTransition` and `HasMap` first.
use Rattle.std.specs.Prelude.{◌≡◌, ℕ, ◌+◌, ◌≤◌, ◌^◌, Bool, true, nat_lt, if◌then◌else◌, List, length, take, drop, pos, Result, Ok, Err, ◌⊎◌}
use Rattle.std.specs.FinMap as map
use Rattle.bk_record.specs.Files.{Files, file_of, header_length}
use Rattle.bk_record.specs.Scan.{entries_of}
use Rattle.bk_disk.specs.Disk.{files_after_append, files_after_patch}
use Rattle.bk_head.specs.Header.{patch_of, IsHeader}
use Rattle.bk_head.specs.Ledgers.{SpellsMap}
use Rattle.bk_head.specs.Written.{written_map}
use Rattle.bk_log.specs.declared.fault.LogFault.{LogFault}
use Rattle.bk_log.specs.declared.fault.LogFault.TheVariants.{Disk, Failed, Memory, Odd}
use Rattle.bk_log.specs.Sizes.{sizes_of}
use Rattle.bk_log.specs.Writing.{Writing}

-- map of the sizes of the writer's records, as bytes
abbrev pub map_bytes : Writing → List ℕ
map_bytes w = written_map w.sizes

-- whether the map ends before byte 2 ^ 32 (project rule)
abbrev pub map_fits : Writing → Bool
map_fits w = nat_lt (w.end + length (map_bytes w)) (2 ^ 32)

-- files with the map after the log's records
abbrev pub files_with_map : Files → Writing → Files
files_with_map files w = files_after_append files w.log (map_bytes w)

-- files with the log sealed; unchanged if the map does not fit
abbrev pub files_after_seal : Files → Writing → Files
files_after_seal files w = if map_fits w then files_after_patch (files_with_map files w) w.log (patch_of w.end (map.len w.sizes)) else files

-- After a device failure: a prefix of the map is appended, possibly all of it; or the whole map,
-- and any bytes in the patched part of the header.
abbrev pub IsHalfSealed : Files → Writing → Files → Type 0
IsHalfSealed files w files' = ((n : ℕ) × (files' ≡ files_after_append files w.log (take n (map_bytes w))))
    ⊎ ((left : List ℕ) × ((length left ≡ 12) × (files' ≡ files_after_patch (files_with_map files w) w.log left)))

-- `seal`, on an honest disk
abbrev pub WriterSealTransition : Files → Writing → Result (Unit {0}) LogFault → Files → Type 0
WriterSealTransition files w (Ok _) files' = files' ≡ files_after_seal files w
WriterSealTransition files w (Err Disk) files' = (map_fits w ≡ true) × IsHalfSealed files w files'
WriterSealTransition files w (Err Failed) files' = files' ≡ files
WriterSealTransition files w (Err Memory) files' = (files' ≡ files) ⊎ ((map_fits w ≡ true) × (files' ≡ files_with_map files w))
WriterSealTransition files w (Err Odd) files' = ⊥

-- the entries of every log are unchanged
abbrev pub KeepsEntries : Files → Files → Type 0
KeepsEntries files files' = (log : ℕ) → entries_of (file_of files' log) ≡ entries_of (file_of files log)

-- A log with a ledgers map: at its header's offset, after the header and in the file, is the map of
-- the sizes of its entries by ledger. The map of a log without entries has no bytes and is at the
-- file's end.
pub record HasMap (file : List ℕ) : Type 0 where
  pub offset : ℕ
  pub behind : header_length ≤ offset
  pub within : offset ≤ length file
  pub header : IsHeader file (record { version = 1; map_offset = pos offset; count = pos (map.len (sizes_of (entries_of file))) })
  pub spelled : SpellsMap (drop offset file) (sizes_of (entries_of file))
