use Rattle.bk_log.proofs.Kept.{kept_new}
use Rattle.bk_log.proofs.scanner.Scanner.new.Goals as goal

pub invariant_of-result : goal.invariant_of-result
invariant_of-result g c = kept_new _ _ _ _ _ _ c.new.ensures c.requires.headed c.requires.ordered c.ranges.end.fits c.requires.in_view
