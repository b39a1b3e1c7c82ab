use Rattle.std.proofs.Common.{◌∙◌, sym}
use Rattle.bk_hint_disk.proofs.Truths.{true_grew, lists_grew}
use Rattle.bk_hint_disk.proofs.hinted_disk.log_disk.HintedDiskLogDisk.list.Goals as goal

pub invariant_of-self : goal.invariant_of-self
invariant_of-self g c = λ honest sure believed.
    let was = sym c.list.ensures.honest ∙ honest in
    true_grew _ _ _ (lists_grew (λ v. v.items) _ _ _ (c.list.ensures.transition was)) (c.self.invariant was sure believed)

pub invariant_of-self-2 : goal.invariant_of-self-2
invariant_of-self-2 g c = λ honest sure believed.
    let was = sym c.list.ensures.honest ∙ honest in
    true_grew _ _ _ (lists_grew (λ v. v.items) _ _ _ (c.list.ensures.transition was)) (c.self.invariant was sure believed)
