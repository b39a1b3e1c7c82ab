use Rattle.std.proofs.Common.{◌∙◌, sym}
use Rattle.bk_hint_disk.proofs.Truths.{true_grew, grew_equal, reads_equal}
use Rattle.bk_hint_disk.proofs.hinted_disk.log_disk.HintedDiskLogDisk.read_at.Goals as goal

pub invariant_of-self : goal.invariant_of-self
invariant_of-self g c = λ honest sure believed.
    let was = sym c.read_at.ensures.honest ∙ honest in
    true_grew _ _ _ (grew_equal _ _ (reads_equal (λ v. v.items) _ _ _ _ _ _ (c.read_at.ensures.transition was))) (c.self.invariant was sure believed)
