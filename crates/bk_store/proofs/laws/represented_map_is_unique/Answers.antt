use Rattle.bk_store.proofs.RepresentedContents.{one_map}
use Rattle.bk_store.proofs.laws.represented_map_is_unique.Goals as goal

pub returns : goal.returns
returns c = λ bytes index cached dead first second. one_map
