use Rattle.bk_manifest.proofs.Found.{records_survive}
use Rattle.bk_manifest.proofs.laws.records_survive.Goals as goal

pub returns : goal.returns
returns c = records_survive
