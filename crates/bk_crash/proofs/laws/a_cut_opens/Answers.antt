use Rattle.bk_store.proofs.Cuts.{cut_opens}
use Rattle.bk_crash.proofs.laws.a_cut_opens.Goals as goal

pub returns : goal.returns
returns c = cut_opens
