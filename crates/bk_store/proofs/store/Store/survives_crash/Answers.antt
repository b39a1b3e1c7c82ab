use Rattle.std.proofs.Common.{sym, ap, subst, ◌∙◌}
use Rattle.bk_record.specs.Files.{Files}
use Rattle.bk_store.specs.State.{State}
use Rattle.bk_store.specs.CrashSafety.{SurvivesCrash, DurableMarksSurvive}
use Rattle.bk_store.proofs.CrashSafety.{survives_crash, durable_survive}
use Rattle.bk_store.proofs.store.Store.survives_crash.Goals as goal

pub returns-clause-survives_crash : goal.returns-clause-survives_crash
returns-clause-survives_crash g c = λ honest.
    let p = c.self.inside.fields in
    let told = survives_crash p c.self.invariant (ap (λ (s : State). s.honest) c.self.view_is ∙ honest) in
    subst (λ (s : State). SurvivesCrash (g.D.LogDisk.synced c.disk.result.now) (g.D.LogDisk.gone c.disk.result.now) s) c.self.view_is
    (subst (λ (files : Files). SurvivesCrash files (g.D.LogDisk.gone c.disk.result.now) p.state) (sym c.disk.ensures.synced)
    (subst (λ (files : Files). SurvivesCrash p.synced files p.state) (sym c.disk.ensures.gone) told))

pub returns-clause-durable_marks : goal.returns-clause-durable_marks
returns-clause-durable_marks g c = λ honest.
    let p = c.self.inside.fields in
    let told = durable_survive p c.self.invariant (ap (λ (s : State). s.honest) c.self.view_is ∙ honest) in
    subst (λ (s : State). DurableMarksSurvive (g.D.LogDisk.synced c.disk.result.now) (g.D.LogDisk.gone c.disk.result.now) s) c.self.view_is
    (subst (λ (files : Files). DurableMarksSurvive files (g.D.LogDisk.gone c.disk.result.now) p.state) (sym c.disk.ensures.synced)
    (subst (λ (files : Files). DurableMarksSurvive p.synced files p.state) (sym c.disk.ensures.gone) told))
