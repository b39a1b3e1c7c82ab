-- The header of an entry log: its first 1024 bytes, of which the first 20 are used. Read `IsHeader`
-- first; `read_header` returns it.
use Rattle.std.specs.Prelude.{◌≡◌, ◌≢◌, ℕ, zero, suc, ◌<◌, ◌≤◌, ℤ, pos, List, [], ◌∷◌, ◌++◌, take, drop, replicate}
use Rattle.std.specs.Int.{w32, w64, to_be_bytes, from_be_bytes, cast_unsigned}
use Rattle.bk_head.specs.declared.header.Header.{Header}
use Rattle.bk_head.specs.declared.fault.HeadFault.{HeadFault}
use Rattle.bk_head.specs.declared.fault.HeadFault.TheVariants.{BadMagic, Version}

-- the four bytes `BKLO`
abbrev pub magic : List ℕ
magic = 66 ∷ 75 ∷ 76 ∷ 79 ∷ []

-- bytes 8 to 20: offset of the map and its number of ledgers (BookKeeper entry log format)
unfoldable pub patch_of : ℕ → ℕ → List ℕ
patch_of offset count = to_be_bytes w64 offset ++ to_be_bytes w32 count

-- first 20 bytes of a header of version 1 (BookKeeper entry log format)
unfoldable pub head_of : ℕ → ℕ → List ℕ
head_of offset count = magic ++ to_be_bytes w32 1 ++ patch_of offset count

-- bytes of a log after a patch of its header
abbrev pub patched_header : List ℕ → ℕ → ℕ → List ℕ
patched_header bytes offset count = take 8 bytes ++ patch_of offset count ++ drop 20 bytes

-- header of a log without a map: magic, version, and zeros
unfoldable pub empty_header : List ℕ
empty_header = head_of 0 0 ++ replicate 1004 0

-- the four bytes after the magic as a number
unfoldable pub version_field : List ℕ → ℕ
version_field bytes = from_be_bytes w32 (drop 4 bytes)

-- Offset and count of the map by version. In version 0 both are 0, whatever the bytes are; in
-- version 1 they are the fields. No other version is read (project rule).
abbrev pub SaysOfMap : ℕ → List ℕ → ℤ → ℤ → Type 0
SaysOfMap zero fields map_offset count = (map_offset ≡ pos 0) × (count ≡ pos 0)
SaysOfMap (suc zero) fields map_offset count = fields ≡ patch_of (cast_unsigned w64 map_offset) (cast_unsigned w32 count)
SaysOfMap (suc (suc version)) fields map_offset count = ⊥

-- The bytes begin with this header: magic, version, and the fields of the version. The bytes after
-- the first 20 are ignored (project rule).
pub record IsHeader (bytes : List ℕ) (header : Header) : Type 0 where
  pub fields : List ℕ
  pub rest : List ℕ
  pub bytes_are : bytes ≡ magic ++ to_be_bytes w32 header.version ++ fields ++ rest
  pub says : SaysOfMap header.version fields header.map_offset header.count

-- the bytes have a header: the magic, and version 0 or 1
abbrev pub HasHeader : List ℕ → Type 0
HasHeader bytes = (take 4 bytes ≡ magic) × (version_field bytes ≤ 1)

-- why bytes have no header; the magic comes first
abbrev pub HeaderFault : List ℕ → HeadFault → Type 0
HeaderFault bytes BadMagic = take 4 bytes ≢ magic
HeaderFault bytes (Version version) = (take 4 bytes ≡ magic) × (version ≡ version_field bytes) × (1 < version)
HeaderFault bytes fault = ⊥
