use Rattle.std.proofs.Common.{◌∙◌, sym}
use Rattle.bk_hint_disk.proofs.Truths.{true_grew, appends_grew}
use Rattle.bk_hint_disk.proofs.hinted_disk.log_disk.HintedDiskLogDisk.append.Goals as goal

pub invariant_of-self : goal.invariant_of-self
invariant_of-self g c = λ honest sure believed.
    let was = sym c.append.ensures.honest ∙ honest in
    true_grew _ _ _ (appends_grew _ _ _ _ _ (c.append.ensures.transition was)) (c.self.invariant was sure believed)
