use Rattle.bk_store.proofs.Opening.{one_index}
use Rattle.bk_store.proofs.laws.index_is_one.Goals as goal

pub returns : goal.returns
returns c = λ bytes dead first second. one_index
