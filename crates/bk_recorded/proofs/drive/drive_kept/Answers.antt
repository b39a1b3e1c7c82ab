use Rattle.std.proofs.Common.{List, ℕ, inr, sym, ap, subst}
use Rattle.std.proofs.lemmas.Result.{IfOk-weaker}
use Rattle.bk_manifest.specs.Keeping.{durable}
use Rattle.bk_recorded.specs.Opening.{AreOf}
use Rattle.bk_recorded.proofs.Kept.{runs_kept, records_by, records_honest, kept_honest, err_weaker, on_err_weaker, not_ok}
use Rattle.bk_recorded.specs.Recording.{RecordsStep}
use Rattle.bk_recorded.proofs.drive.drive_kept.Goals as goal

pub returns-clause-run : goal.returns-clause-run
returns-clause-run g c = λ disk honest.
    let m = c.args.ledgers.now.manifest in
    let lists = subst (λ (xs : List ℕ). AreOf (durable m) xs c.deref-2.result.now) (sym c.deref.ensures.value)
    (subst (λ (ys : List ℕ). AreOf (durable m) c.in-Ok.known.deleted.items ys) (sym c.deref-2.ensures.value) (c.in-Ok.ensures honest)) in
    IfOk-weaker c.drive_recorded.result _ _ (λ ran run. (runs_kept (λ r. r.manifest) _ _ _ _ _ _ _ _ _ _ _ run disk honest lists).0) c.drive_recorded.ensures.headline

pub returns-clause-recorded : goal.returns-clause-recorded
returns-clause-recorded g c = λ disk honest.
    let m = c.args.ledgers.now.manifest in
    let lists = subst (λ (xs : List ℕ). AreOf (durable m) xs c.deref-2.result.now) (sym c.deref.ensures.value)
    (subst (λ (ys : List ℕ). AreOf (durable m) c.in-Ok.known.deleted.items ys) (sym c.deref-2.ensures.value) (c.in-Ok.ensures honest)) in
    IfOk-weaker c.drive_recorded.result _ _ (λ ran run. (runs_kept (λ r. r.manifest) _ _ _ _ _ _ _ _ _ _ _ run disk honest lists).1) c.drive_recorded.ensures.headline

pub returns-clause-honest : goal.returns-clause-honest
returns-clause-honest g c =
    kept_honest c.drive_recorded.result _ _ _ c.drive_recorded.ensures.headline c.drive_recorded.ensures.unasked
    (λ ran run. records_honest _ _ _ _ (records_by (λ r. r.manifest) RecordsStep _ _ _ _ run.recorded)) (λ same. ap (λ r. r.manifest.honest) same)

pub returns-clause-fails : goal.returns-clause-fails
returns-clause-fails g c = err_weaker c.drive_recorded.result _ _ (λ fault fails. inr fails) c.drive_recorded.ensures.fails

pub returns-clause-unasked : goal.returns-clause-unasked
returns-clause-unasked g c = on_err_weaker c.drive_recorded.result _ _ (λ same. ap (λ r. r.manifest) same) c.drive_recorded.ensures.unasked

pub returns-clause-settings : goal.returns-clause-settings
returns-clause-settings g c = λ none. not_ok c.drive_recorded.result _ (c.drive_recorded.ensures.settings.1 none)
