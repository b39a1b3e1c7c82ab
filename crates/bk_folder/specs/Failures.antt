-- The number of device failures of the disk of a directory.
use Rattle.std.specs.Prelude.{ℕ}
use Rattle.bk_folder.specs.declared.folder_disk.FolderDisk.{FolderDisk}
use Rattle.bk_folder.specs.declared.folder_disk.FolderDisk.TheVariants.{Plain, Kept}

abbrev pub failures_of : FolderDisk → ℕ
failures_of (Plain disk) = disk.failures
failures_of (Kept disk) = disk.failures
