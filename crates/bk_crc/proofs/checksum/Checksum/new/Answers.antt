use Rattle.std.proofs.Common.{refl, arith}
use Rattle.bk_crc.specs.Checksum.{word_of}
use Rattle.bk_crc.proofs.Dividing.{divided}
use Rattle.bk_crc.proofs.Remainders.{is_remainder}
use Rattle.bk_crc.proofs.Words.{odd_generator}
use Rattle.bk_crc.proofs.checksum.Checksum.new.Goals as goal

pub returns : goal.returns
unfolding word_of divided
returns c = record {
  same = refl;
  remainder = is_remainder _ _ _ _ (odd_generator c.args.polynomial) (omega arith) refl;
}
