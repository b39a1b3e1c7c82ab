use Rattle.std.proofs.Common.{◌∙◌, sym}
use Rattle.bk_hint_disk.proofs.Truths.{true_grew, patches_grew}
use Rattle.bk_hint_disk.proofs.hinted_disk.log_disk.HintedDiskLogDisk.patch.Goals as goal

pub invariant_of-self : goal.invariant_of-self
invariant_of-self g c = λ honest sure believed.
    let was = sym c.patch.ensures.honest ∙ honest in
    true_grew _ _ _ (patches_grew _ _ _ _ _ c.told-bytes (c.patch.ensures.transition was)) (c.self.invariant was sure believed)
