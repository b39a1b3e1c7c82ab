use Rattle.bk_log.proofs.SizeSums.{adds_up}
use Rattle.bk_log.proofs.laws.sizes_are_sums.Goals as goal

pub returns : goal.returns
returns c = adds_up
