use Rattle.bk_store.proofs.LedgerLeaves.{carries_without_ledger}
use Rattle.bk_store.proofs.laws.delete_keeps_representation.Goals as goal

pub returns : goal.returns
returns c = λ bytes index cached left dead map ledger carries gone others. carries_without_ledger carries left ledger gone others
