use Rattle.bk_log.proofs.Passes.{goes_on}
use Rattle.bk_log.proofs.laws.a_scan_goes_on.Goals as goal

pub returns : goal.returns
returns c = goes_on
