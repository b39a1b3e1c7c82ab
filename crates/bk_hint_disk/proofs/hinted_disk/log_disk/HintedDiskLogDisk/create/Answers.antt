use Rattle.std.proofs.Common.{◌≡◌, ◌∙◌, true, sym, subst}
use Rattle.std.specs.Prelude.{is_ok}
use Rattle.bk_record.specs.Files.{Files}
use Rattle.bk_hint_disk.specs.Truth.{AreTrue}
use Rattle.bk_hint_disk.proofs.Truths.{creates_true}
use Rattle.bk_hint_disk.proofs.Using.{dropped}
use Rattle.bk_hint_disk.proofs.hinted_disk.log_disk.HintedDiskLogDisk.create.Goals.{then-self, else-self}
use Rattle.bk_hint_disk.proofs.hinted_disk.log_disk.HintedDiskLogDisk.create.Goals as goal

-- a hint that could not be dropped is not believed
pub invariant_of-self : goal.invariant_of-self
invariant_of-self g c = λ honest sure believed.
    let was = sym c.create.ensures.honest ∙ honest in
    let s = sym c.drop_hint-dropped.ensures.honest ∙ sure in
    elim c.if-self.branch [
      | then-self w ↦
          let ok : is_ok c.drop_hint-dropped.result ≡ true = sym w.is_ok-self-inside.ensures.value ∙ sym w.self-is ∙ believed in
          subst (λ (h : Files). AreTrue h (g.D.LogDisk.files c.create.new.self)) (sym (dropped _ _ _ _ (c.drop_hint-dropped.ensures.transition s) ok))
          (creates_true _ _ _ _ _ (c.create.ensures.transition was) (c.self.invariant was s w.if-self.true))
      | else-self w ↦ absurd (let f = sym w.self-is ∙ believed in cc)
    ]
