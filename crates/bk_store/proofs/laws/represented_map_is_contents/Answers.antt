use Rattle.bk_store.proofs.RepresentedContents.{carries_meaning}
use Rattle.bk_store.proofs.laws.represented_map_is_contents.Goals as goal

pub returns : goal.returns
returns c = λ files index cached dead map. carries_meaning files
