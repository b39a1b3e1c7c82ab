-- The published values, by computation.
use Rattle.std.proofs.Common.{refl, arith}
use Rattle.bk_crc.specs.Checksum.{powers, of_powers, generator, word_of}
use Rattle.bk_crc.specs.Values.{HasCheckValues}
use Rattle.bk_crc.proofs.Dividing.{halved, divided}
use Rattle.bk_crc.proofs.Remainders.{is_remainder}

pub has_values : HasCheckValues
unfolding powers of_powers generator word_of halved divided
has_values = record {
  castagnoli = is_remainder _ _ _ _ refl (omega arith) refl;
  ieee = is_remainder _ _ _ _ refl (omega arith) refl;
  castagnoli_none = is_remainder _ _ _ _ refl (omega arith) refl;
  ieee_none = is_remainder _ _ _ _ refl (omega arith) refl;
}
