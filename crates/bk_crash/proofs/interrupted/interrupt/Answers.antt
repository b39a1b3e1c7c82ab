use Rattle.std.proofs.Common.{IsTrue, sym, subst}
use Rattle.bk_record.specs.Files.{Files}
use Rattle.bk_crash.specs.Interrupted.{SurvivesStep}
use Rattle.bk_crash.proofs.PublishedEntries.{survives_step}
use Rattle.bk_crash.proofs.interrupted.interrupt.Goals as goal

pub returns : goal.returns
returns g c = record {
  transition = (c.perform.new.store, c.perform.ensures.transition, c.survives_crash-2.ensures.files);
  survives_crash = λ honest.
      let disk = c.survives_crash-2.result.now.inner in
      let contents = c.survives_crash.ensures.survives_crash honest in
      subst (λ (files : Files). SurvivesStep files (g.D.LogDisk.gone disk) (g.D.LogDisk.synced disk) c.args.store.now c.args.step.now)
      (sym c.survives_crash-2.ensures.files)
      (survives_step (g.D.LogDisk.synced disk) (g.D.LogDisk.gone disk) c.args.store.now c.perform.new.store c.args.step.now contents.0
      c.reveal_invariant.ensures honest contents.1
      (c.perform.ensures.published honest) (c.survives_crash-2.ensures.survives_crash (subst (λ b. IsTrue b) (sym c.perform.ensures.honest) honest)));
}
