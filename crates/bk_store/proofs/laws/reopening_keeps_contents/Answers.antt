use Rattle.bk_store.proofs.Reopening.{reopened_same}
use Rattle.bk_store.proofs.laws.reopening_keeps_contents.Goals as goal

pub returns : goal.returns
returns c = λ s t settings dead. reopened_same s t settings dead
