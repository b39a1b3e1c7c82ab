use Rattle.bk_head.proofs.Again.{old_has_no_map}
use Rattle.bk_head.proofs.laws.old_header_has_no_map.Goals as goal

pub returns : goal.returns
returns c = old_has_no_map
