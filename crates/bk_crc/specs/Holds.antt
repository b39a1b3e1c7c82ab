-- State of a checksum over a message in pieces: the contracts of `new`, `update` and `finish`.
use Rattle.std.specs.Prelude.{◌≡◌, ℕ, ◌*◌, List, length}
use Rattle.bk_crc.specs.declared.polynomial.Polynomial.{Polynomial}
use Rattle.bk_crc.specs.declared.checksum.Checksum.{Checksum}
use Rattle.bk_crc.specs.Division.{IsRemainder}
use Rattle.bk_crc.specs.Checksum.{generator, dividend_of}

-- the register is the remainder of the message so far
pub record Holds (polynomial : Polynomial) (checksum : Checksum) (message : List ℕ) : Type 0 where
  pub same : checksum.polynomial ≡ polynomial
  pub remainder : IsRemainder (generator polynomial) (8 * length message) (dividend_of message) checksum.register
