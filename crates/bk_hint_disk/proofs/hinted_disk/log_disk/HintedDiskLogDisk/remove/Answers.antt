use Rattle.std.proofs.Common.{◌≡◌, ◌∙◌, true, sym, subst}
use Rattle.std.specs.Prelude.{is_ok}
use Rattle.bk_record.specs.Files.{Files}
use Rattle.bk_hint_disk.specs.Truth.{AreTrue}
use Rattle.bk_hint_disk.proofs.Truths.{true_grew, removes_grew, true_fewer}
use Rattle.bk_hint_disk.proofs.Using.{dropped}
use Rattle.bk_hint_disk.proofs.hinted_disk.log_disk.HintedDiskLogDisk.remove.Goals.{then-self, else-self}
use Rattle.bk_hint_disk.proofs.hinted_disk.log_disk.HintedDiskLogDisk.remove.Goals as goal

-- a hint that could not be dropped is not believed
pub invariant_of-self : goal.invariant_of-self
invariant_of-self g c = λ honest sure believed.
    let was = sym c.remove.ensures.honest ∙ honest in
    let s = sym c.drop_hint-forgotten.ensures.honest ∙ sure in
    elim c.if-self.branch [
      | then-self w ↦
          let ok : is_ok c.drop_hint-forgotten.result ≡ true = sym w.is_ok-self-inside.ensures.value ∙ sym w.self-is ∙ believed in
          subst (λ (h : Files). AreTrue h (g.D.LogDisk.files c.remove.new.self)) (sym (dropped _ _ _ _ (c.drop_hint-forgotten.ensures.transition s) ok))
          (true_grew _ _ _ (removes_grew _ _ _ _ (c.remove.ensures.transition was)) (true_fewer _ _ _ (c.self.invariant was s w.if-self.true)))
      | else-self w ↦ absurd (let f = sym w.self-is ∙ believed in cc)
    ]
