use Rattle.std.proofs.Common.{◌∙◌, ap, sym, subst, Err}
use Rattle.std.proofs.lemmas.Result.{err_from_is_err_and}
use Rattle.bk_disk.specs.Disk.{Views}
use Rattle.bk_manifest_disk.specs.Limiting.{Limiting, ShownView, shown, shown_files}
use Rattle.bk_manifest_disk.proofs.Shown.{shown_is}
use Rattle.bk_manifest_disk.proofs.Showing.{durable_shown}
use Rattle.bk_manifest_disk.proofs.Changing.{unviewed_shown}
use Rattle.bk_manifest_disk.proofs.limited_disk.LimitedDiskLogDisk.view.Goals as goal

pub returns-in_err-inner-clause-durable : goal.returns-in_err-inner-clause-durable
returns-in_err-inner-clause-durable g c = λ h.
    let was = ap (λ d. d.honest) c.self.view_is ∙ h in
    rw (sym c.self.view_is) (durable_shown _ _ _ _ _ (c.view.ensures.durable was))

pub returns-in_err-inner-clause-transition : goal.returns-in_err-inner-clause-transition
returns-in_err-inner-clause-transition g c = λ h.
    let was = ap (λ d. d.honest) c.self.view_is ∙ h in
    let told = err_from_is_err_and c.from_residual.result c.from_residual.ensures.1 in
    subst (λ r. Views (λ (v : ShownView). shown v.limit v.bytes) (λ (v : ShownView). v.honest) (shown_files c.args.self.now.limits c.args.self.now.files) c.args.log r
    (shown_files c.self.inside.limits (g.D.LogDisk.files c.view.new.self))) (sym (told.1 ∙ ap Err told.2))
    (subst (λ (v : Limiting). Views (λ (w : ShownView). shown w.limit w.bytes) (λ (w : ShownView). w.honest) (shown_files v.limits v.files) c.args.log (Err c.in_err-inner.field-0.0)
    (shown_files c.self.inside.limits (g.D.LogDisk.files c.view.new.self))) c.self.view_is
    (unviewed_shown g.D.View.LogView.bytes g.D.View.LogView.honest (λ (w : ShownView). shown w.limit w.bytes) (λ (w : ShownView). w.honest) _ _ _ _ _ (c.in_err-inner.ensures.transition was)))

pub returns-clause-durable : goal.returns-clause-durable
returns-clause-durable g c = λ h.
    let was = ap (λ d. d.honest) c.self.view_is ∙ h in
    rw (sym c.self.view_is) (durable_shown _ _ _ _ _ (c.view.ensures.durable was))

pub returns-clause-transition : goal.returns-clause-transition
returns-clause-transition g c = λ h.
    let was = ap (λ d. d.honest) c.self.view_is ∙ h in
    let turn = c.in_ok-inner.ensures.transition was in
    rw (sym c.self.view_is, c.get.ensures) (shown_is _ _ _ _ turn.0, turn.1, ap (shown_files c.self.inside.limits) turn.2)
