use Rattle.bk_manifest.proofs.Checksums.{one_checksum}
use Rattle.bk_manifest.proofs.laws.one_checksum.Goals as goal

pub returns : goal.returns
returns c = one_checksum
