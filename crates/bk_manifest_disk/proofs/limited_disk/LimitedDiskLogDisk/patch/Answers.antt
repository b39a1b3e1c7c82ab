use Rattle.std.proofs.Common.{◌∙◌, ap, sym}
use Rattle.bk_manifest_disk.proofs.Grown.{patches_alike}
use Rattle.bk_manifest_disk.proofs.Showing.{durable_shown, within_alike}
use Rattle.bk_manifest_disk.proofs.Changing.{not_reached, patches_shown}
use Rattle.bk_manifest_disk.proofs.limited_disk.LimitedDiskLogDisk.patch.Goals as goal

pub returns-then-not-reaches-clause-transition : goal.returns-then-not-reaches-clause-transition
returns-then-not-reaches-clause-transition g c = λ h.
    let was = ap (λ d. d.honest) c.self.view_is ∙ h in
    rw (sym c.self.view_is) (not_reached _ _ _ (c.self.invariant was) 20 (sym c.reaches.ensures ∙ c.if-not-reaches.true))

pub invariant_of-self : goal.invariant_of-self
invariant_of-self g c = λ honest.
    let was = sym c.patch.ensures.honest ∙ honest in
    within_alike _ _ _ (c.self.invariant was) (patches_alike _ _ _ _ _ c.told-bytes (c.patch.ensures.transition was))

pub returns-clause-durable : goal.returns-clause-durable
returns-clause-durable g c = λ h.
    let was = ap (λ d. d.honest) c.self.view_is ∙ h in
    rw (sym c.self.view_is) (durable_shown _ _ _ _ _ (c.patch.ensures.durable was))

pub returns-clause-transition : goal.returns-clause-transition
returns-clause-transition g c = λ h.
    let was = ap (λ d. d.honest) c.self.view_is ∙ h in
    rw (sym c.self.view_is) (patches_shown _ _ _ (c.self.invariant was) (sym c.reaches.ensures ∙ c.if-not-reaches.false) _ _ _ c.told-bytes (c.patch.ensures.transition was))
