use Rattle.bk_store.proofs.Rebuilding.{carries_rebuilt}
use Rattle.bk_store.proofs.laws.rebuilt_index_represents.Goals as goal

pub returns : goal.returns
returns c = λ bytes parts index rebuilt cached dead map. carries_rebuilt
