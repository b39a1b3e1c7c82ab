use Rattle.std.proofs.Common.{IsTrue, subst}
use Rattle.bk_disk.specs.Disk.{AreSound}
use Rattle.bk_store.specs.Opening.{NeverFails}
use Rattle.bk_script.specs.Script.{IsScript}
use Rattle.bk_script.specs.Run.{AnswersSteps}
use Rattle.bk_script.proofs.Scripts.{spelled_never_bad}
use Rattle.bk_script.proofs.run.answers_to.Goals as goal

pub returns-in-Ok-clause-bad : goal.returns-in-Ok-clause-bad
returns-in-Ok-clause-bad g c =
    spelled_never_bad _ _ _ _ c.in_ok-steps.steps.items c.in_ok-input.ensures.bytes c.in_ok-input.ensures.end
    (subst (λ bytes. IsScript bytes c.in_ok-steps.steps.items) c.deref.ensures.value c.in_ok-steps.ensures.ok)

pub returns-in-Ok-clause-ok : goal.returns-in-Ok-clause-ok
returns-in-Ok-clause-ok g c = record {
  input = c.in_ok-input.input.items;
  steps = c.in_ok-steps.steps.items;
  taken = c.in_ok-input.ensures.bytes;
  ended = c.in_ok-input.ensures.end;
  spelled = subst (λ bytes. IsScript bytes c.in_ok-steps.steps.items) c.deref.ensures.value c.in_ok-steps.ensures.ok;
  answered = subst (λ steps. AnswersSteps (IsTrue (g.D.LogDisk.honest c.args.disk))
      (NeverFails g.D.LogDisk.failures × AreSound g.D.View.LogView.sound) (g.D.LogDisk.files c.args.disk) c.args.settings c.args.dead.now steps
      c.in-Ok.answers.items) c.deref-2.ensures.value c.in-Ok.ensures;
}
