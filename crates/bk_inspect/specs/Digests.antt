-- The digests that BookKeeper's clients put into payloads.
use Rattle.std.specs.Prelude.{ℕ, ◌+◌, ◌≤◌, List, ◌++◌, length, take, drop}
use Rattle.std.specs.Int.{w32, w64, from_be_bytes}
use Rattle.bk_crc.specs.declared.polynomial.Polynomial.{Polynomial}
use Rattle.bk_crc.specs.declared.polynomial.Polynomial.TheVariants.{Castagnoli, Ieee}
use Rattle.bk_crc.specs.Checksum.{IsChecksum}
use Rattle.bk_inspect.specs.declared.digest.Digest.{Digest}
use Rattle.bk_inspect.specs.declared.digest.Digest.TheVariants.{Crc32c, Crc32}

-- the polynomial of the checksum
abbrev pub polynomial_of : Digest → Polynomial
polynomial_of Crc32c = Castagnoli
polynomial_of Crc32 = Ieee

-- its length in bytes
abbrev pub width_of : Digest → ℕ
width_of Crc32c = 4
width_of Crc32 = 8

-- the number that its bytes are, big-endian
abbrev pub written_as : Digest → List ℕ → ℕ
written_as Crc32c bytes = from_be_bytes w32 (take 4 bytes)
written_as Crc32 bytes = from_be_bytes w64 (take 8 bytes)

-- The first 32 bytes of a payload are followed by the checksum of these bytes and of the data.
pub record FitsDigest (digest : Digest) (payload : List ℕ) : Type 0 where
  pub long : 32 + width_of digest ≤ length payload
  pub is : IsChecksum (polynomial_of digest) (take 32 payload ++ drop (32 + width_of digest) payload) (written_as digest (drop 32 payload))
