use Rattle.bk_log.proofs.Ranges.{whole_part}
use Rattle.bk_log.proofs.laws.whole_log_is_one_part.Goals as goal

pub returns : goal.returns
returns c = whole_part
