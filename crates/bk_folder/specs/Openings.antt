-- Why a directory is not opened to be written: its word in an object, and the way on.
use Rattle.std.specs.Prelude.{ℕ, Bool, true, false, List, Option, Some, None, codes}
use Rattle.std.specs.IoError.{error_kind}
use Rattle.std.specs.declared.io.ErrorKind.{ErrorKind}
use Rattle.std.specs.declared.io.ErrorKind.TheVariants as kinds
use Rattle.bk_disk.specs.declared.fault.DiskFault.{DiskFault}
use Rattle.bk_disk.specs.declared.fault.DiskFault.TheVariants as disk
use Rattle.bk_disk.specs.declared.folder_fault.FolderFault.{FolderFault}
use Rattle.bk_disk.specs.declared.folder_fault.FolderFault.TheVariants as folder
use Rattle.bk_messages.specs.Kinds.{folder_word, logs_word, manifest_word}
use Rattle.bk_messages.specs.Ways.{way_behind_book, way_behind_logs}
use Rattle.bk_messages.specs.declared.way_on.WayOn.{WayOn}
use Rattle.bk_folder.specs.declared.directory.OpeningFault.{OpeningFault}
use Rattle.bk_folder.specs.declared.directory.OpeningFault.TheVariants as openings

abbrev pub opening_word : OpeningFault → List ℕ
opening_word (openings.Folder fault) = folder_word fault
opening_word (openings.Call call) = codes "disk"
opening_word (openings.Logs fault) = logs_word fault.fault
opening_word (openings.Book fault) = manifest_word fault.error

abbrev pub opening_way : OpeningFault → Option WayOn
opening_way (openings.Folder fault) = None
opening_way (openings.Call call) = None
opening_way (openings.Logs fault) = way_behind_logs fault.fault
opening_way (openings.Book fault) = way_behind_book fault.error

-- Nothing is at the path: the directory is made.
abbrev pub is_not_found : ErrorKind → Bool
is_not_found kinds.NotFound = true
is_not_found kind = false

abbrev pub is_absent : FolderFault → Bool
is_absent (folder.Refused path reason) = is_not_found (error_kind reason)
is_absent fault = false

-- why it is not known whether a log has a watermark
abbrev pub unread_word : DiskFault → List ℕ
unread_word disk.Memory = codes "memory"
unread_word fault = codes "a log cannot be read"
