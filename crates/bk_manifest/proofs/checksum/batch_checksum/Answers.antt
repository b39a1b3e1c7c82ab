use Rattle.std.proofs.Common.{◌≡◌, ℕ, List, [], ◌++◌, ap, ◌∙◌}
use Rattle.bk_crc.specs.declared.polynomial.Polynomial.TheVariants.{Castagnoli}
use Rattle.bk_manifest.specs.Checksum.{crc32c, checksum_of_batch}
use Rattle.bk_manifest.proofs.Checksums.{one_checksum}
use Rattle.bk_manifest.proofs.checksum.batch_checksum.Goals as goal

same_parts : (a a' b b' d d' e : List ℕ) → a ≡ a' → b ≡ b' → d ≡ d' → ((a ++ b) ++ d) ++ e ≡ ((a' ++ b') ++ d') ++ e
same_parts a a' b b' d d' e p q r = cc

pub returns : goal.returns
unfolding checksum_of_batch
returns c =
    let one = c.update.ensures Castagnoli [] c.new-checksum.ensures in
    let two = c.update-2.ensures Castagnoli _ one in
    let three = c.update-3.ensures Castagnoli _ two in
    let four = c.update-4.ensures Castagnoli _ three in
    one_checksum _ _ (c.finish.ensures Castagnoli _ four)
    ∙ ap crc32c (same_parts _ _ _ _ _ _ c.args.bytes.now c.to_be_bytes.ensures c.to_be_bytes-2.ensures c.to_be_bytes-3.ensures)
