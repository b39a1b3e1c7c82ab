-- Whether a log is sealed, by its header. Read `IsSealedLog` and `IsOpenLog` first.
use Rattle.std.specs.Prelude.{◌≡◌, ◌≢◌, ◌⊎◌, ℕ, ◌<◌, ◌≤◌, List, [], take, length, Some, Ok}
use Rattle.bk_record.specs.Files.{header_length}
use Rattle.bk_disk.specs.Disk.{view_end}
use Rattle.bk_head.specs.declared.header.Header.{Header}
use Rattle.bk_head.specs.Header.{HasHeader, IsHeader}
use Rattle.bk_head.specs.Reading.{map_place}
use Rattle.bk_hint_disk.specs.Usable.{IsSealedAt}

-- the bytes are the header of the file; none if the file is shorter than a header
pub record IsFrontOf (file header : List ℕ) : Type 0 where
  pub long : header_length ≤ length file → header ≡ take header_length file
  pub short : length file < header_length → header ≡ []

-- the file has a header, which names a ledgers map that begins in the file
abbrev pub IsSealedLog : List ℕ → Type 0
IsSealedLog file = (header_length ≤ length file) × ((at : ℕ) × IsSealedAt (take header_length file) (view_end file) at)

-- the bytes are no header, or one that names no ledgers map in a log of this length
abbrev pub NamesNoMap : List ℕ → ℕ → Type 0
NamesNoMap header end = ¬ (HasHeader header)
    ⊎ ((said : Header) × IsHeader header said × ((at count : ℕ) → map_place end said.map_offset said.count ≢ Ok (Some (at, count))))

-- the file is shorter than a header, or its header is invalid or names no ledgers map
abbrev pub IsOpenLog : List ℕ → Type 0
IsOpenLog file = (length file < header_length) ⊎ NamesNoMap (take header_length file) (view_end file)
