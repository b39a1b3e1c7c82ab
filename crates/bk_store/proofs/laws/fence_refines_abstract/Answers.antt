use Rattle.bk_store.proofs.Refinement.{plain_fence}
use Rattle.bk_store.proofs.laws.fence_refines_abstract.Goals as goal

pub returns : goal.returns
returns c = λ s t p ledger answer agrees turn. plain_fence s p agrees t ledger answer turn
