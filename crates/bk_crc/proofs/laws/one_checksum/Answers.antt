use Rattle.bk_crc.proofs.Words.{one_of}
use Rattle.bk_crc.proofs.laws.one_checksum.Goals as goal

pub returns : goal.returns
returns c = one_of
