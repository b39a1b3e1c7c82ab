use Rattle.std.proofs.Common.{◌∙◌, ap, sym}
use Rattle.bk_manifest_disk.proofs.Showing.{durable_shown}
use Rattle.bk_manifest_disk.proofs.Changing.{not_reached, reads_shown}
use Rattle.bk_manifest_disk.proofs.limited_disk.LimitedDiskLogDisk.read_at.Goals as goal

pub returns-then-not-reaches-clause-transition : goal.returns-then-not-reaches-clause-transition
returns-then-not-reaches-clause-transition g c = λ h.
    let was = ap (λ d. d.honest) c.self.view_is ∙ h in
    rw (sym c.self.view_is) (not_reached _ _ _ (c.self.invariant was) _ (sym c.reaches.ensures ∙ c.if-not-reaches.true))

pub returns-clause-durable : goal.returns-clause-durable
returns-clause-durable g c = λ h.
    let was = ap (λ d. d.honest) c.self.view_is ∙ h in
    rw (sym c.self.view_is) (durable_shown _ _ _ _ _ (c.read_at.ensures.durable was))

pub returns-clause-transition : goal.returns-clause-transition
returns-clause-transition g c = λ h.
    let was = ap (λ d. d.honest) c.self.view_is ∙ h in
    rw (sym c.self.view_is) (reads_shown (λ v. v.items) _ _ _ _ _ _ _ (sym c.reaches.ensures ∙ c.if-not-reaches.false) (c.read_at.ensures.transition was))
