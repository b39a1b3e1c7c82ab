use Rattle.std.proofs.Common.{◌∙◌, ap, sym, subst, ℕ, Result, Err}
use Rattle.std.proofs.lemmas.Result.{err_from_is_err_and}
use Rattle.bk_disk.specs.Disk.{Measures}
use Rattle.bk_disk.specs.declared.fault.DiskFault.{DiskFault}
use Rattle.bk_manifest_disk.specs.Limiting.{Limiting, shown_files}
use Rattle.bk_manifest_disk.proofs.Showing.{durable_shown, measured_shown, unmeasured_shown}
use Rattle.bk_manifest_disk.proofs.limited_disk.LimitedDiskLogDisk.length.Goals as goal

pub returns-in_err-length-clause-durable : goal.returns-in_err-length-clause-durable
returns-in_err-length-clause-durable g c = λ h.
    let was = ap (λ d. d.honest) c.self.view_is ∙ h in
    rw (sym c.self.view_is) (durable_shown _ _ _ _ _ (c.length.ensures.durable was))

pub returns-in_err-length-clause-transition : goal.returns-in_err-length-clause-transition
returns-in_err-length-clause-transition g c = λ h.
    let was = ap (λ d. d.honest) c.self.view_is ∙ h in
    let told = err_from_is_err_and c.from_residual.result c.from_residual.ensures.1 in
    subst (λ (r : Result ℕ DiskFault). Measures (shown_files c.args.self.now.limits c.args.self.now.files) c.args.log r
    (shown_files c.self.inside.limits (g.D.LogDisk.files c.length.new.self))) (sym (told.1 ∙ ap Err told.2))
    (subst (λ (v : Limiting). Measures (shown_files v.limits v.files) c.args.log (Err c.in_err-length.field-0.0)
    (shown_files c.self.inside.limits (g.D.LogDisk.files c.length.new.self))) c.self.view_is
    (unmeasured_shown _ _ _ _ _ (c.in_err-length.ensures.transition was)))

pub returns-clause-durable : goal.returns-clause-durable
returns-clause-durable g c = λ h.
    let was = ap (λ d. d.honest) c.self.view_is ∙ h in
    rw (sym c.self.view_is) (durable_shown _ _ _ _ _ (c.length.ensures.durable was))

pub returns-clause-transition : goal.returns-clause-transition
returns-clause-transition g c = λ h.
    let was = ap (λ d. d.honest) c.self.view_is ∙ h in
    rw (sym c.self.view_is, c.cap.ensures) (measured_shown _ _ _ _ _ (c.in_ok-length.ensures.transition was))
