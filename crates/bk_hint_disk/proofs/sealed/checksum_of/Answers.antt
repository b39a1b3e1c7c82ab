use Rattle.std.proofs.Common.{[]}
use Rattle.bk_crc.specs.declared.polynomial.Polynomial.TheVariants.{Castagnoli}
use Rattle.bk_hint_disk.proofs.sealed.checksum_of.Goals as goal

pub returns : goal.returns
returns c =
    let header = c.args.header.now in
    c.finish.ensures Castagnoli _ (c.update-2.ensures Castagnoli header (c.update.ensures Castagnoli [] c.new-checksum.ensures))
