use Rattle.bk_manifest.proofs.Checksums.{one_checksum}
use Rattle.bk_manifest.proofs.checksum.checksum.Goals as goal

pub returns : goal.returns
returns c = one_checksum c.args.bytes.now c.checksum_of.result c.checksum_of.ensures
