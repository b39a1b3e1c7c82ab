use Rattle.bk_crc.proofs.Values.{has_values}
use Rattle.bk_crc.proofs.laws.check_values.Goals as goal

pub returns : goal.returns
returns c = has_values
