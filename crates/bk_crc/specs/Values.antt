-- Published values of the two checksums.
use Rattle.std.specs.Prelude.{ℕ, List, [], ◌∷◌}
use Rattle.bk_crc.specs.declared.polynomial.Polynomial.TheVariants.{Castagnoli, Ieee}
use Rattle.bk_crc.specs.Checksum.{IsChecksum}

-- the text 123456789
abbrev pub nine_digits : List ℕ
nine_digits = 49 ∷ 50 ∷ 51 ∷ 52 ∷ 53 ∷ 54 ∷ 55 ∷ 56 ∷ 57 ∷ []

-- check values, and the checksums of no bytes
pub record HasCheckValues : Type 0 where
  pub castagnoli : IsChecksum Castagnoli nine_digits 0xe3069283
  pub ieee : IsChecksum Ieee nine_digits 0xcbf43926
  pub castagnoli_none : IsChecksum Castagnoli [] 0
  pub ieee_none : IsChecksum Ieee [] 0
