use Rattle.bk_store.proofs.Opening.{carries_opened}
use Rattle.bk_store.proofs.laws.opened_index_represents.Goals as goal

pub returns : goal.returns
returns c = λ files dead index. carries_opened files
