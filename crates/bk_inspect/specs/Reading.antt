-- Frame condition of a command that reads: the disk is unchanged.
use Rattle.std.specs.Prelude.{◌≡◌, ℕ, List, Bool, IsTrue}
use Rattle.bk_record.specs.Files.{Files}
use Rattle.bk_disk.specs.Disk.{IsFile}

-- an honest disk has the same files as before
abbrev pub OnlyReads : Bool → Files → Bool → Files → Type 0
OnlyReads honest files honest' files' = (honest' ≡ honest) × (IsTrue honest → files' ≡ files)

-- the log is there, and this holds of its bytes
abbrev pub OfFile : Files → ℕ → (List ℕ → Type 0) → Type 0
OfFile files log Is = (file : List ℕ) × IsFile files log file × Is file
