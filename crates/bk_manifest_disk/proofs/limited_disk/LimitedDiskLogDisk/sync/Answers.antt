use Rattle.std.proofs.Common.{◌∙◌, ap, sym}
use Rattle.bk_manifest_disk.proofs.Showing.{durable_shown, synced_shown, syncs_shown}
use Rattle.bk_manifest_disk.proofs.limited_disk.LimitedDiskLogDisk.sync.Goals as goal

pub returns-clause-durable : goal.returns-clause-durable
returns-clause-durable g c = λ h.
    let was = ap (λ d. d.honest) c.self.view_is ∙ h in
    rw (sym c.self.view_is) (durable_shown _ _ _ _ _ (c.sync.ensures.durable was))

pub returns-clause-syncs : goal.returns-clause-syncs
returns-clause-syncs g c = λ h.
    let was = ap (λ d. d.honest) c.self.view_is ∙ h in
    rw (sym c.self.view_is) (synced_shown _ _ _ _ _ (c.sync.ensures.syncs was))

pub returns-clause-transition : goal.returns-clause-transition
returns-clause-transition g c = λ h.
    let was = ap (λ d. d.honest) c.self.view_is ∙ h in
    rw (sym c.self.view_is) (syncs_shown _ _ _ _ _ (c.sync.ensures.transition was))
