use Rattle.bk_log.proofs.OneRecord.{stands_once}
use Rattle.bk_log.proofs.laws.one_record_at_a_place.Goals as goal

pub returns : goal.returns
returns c = stands_once
