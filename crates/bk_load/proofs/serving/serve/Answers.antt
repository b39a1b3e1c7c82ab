use Rattle.std.proofs.Common.{List, subst}
use Rattle.bk_store.specs.declared.mark.Receipt.{Receipt}
use Rattle.bk_bookie.specs.Receipts.{AllStand}
use Rattle.bk_load.proofs.serving.serve.Goals as goal

pub returns-clause-stand : goal.returns-clause-stand
returns-clause-stand g c =
    subst (λ (receipts : List Receipt). AllStand c.in_ok-store.field-0.store.ledgers.trail receipts) c.deref.ensures.value c.in_ok-store.ensures.stand
