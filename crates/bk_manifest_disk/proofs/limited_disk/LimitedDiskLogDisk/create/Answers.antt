use Rattle.std.proofs.Common.{◌∙◌, ap, sym}
use Rattle.bk_manifest_disk.proofs.Showing.{durable_shown, creates_shown, created_within}
use Rattle.bk_manifest_disk.proofs.limited_disk.LimitedDiskLogDisk.create.Goals as goal

pub invariant_of-self : goal.invariant_of-self
invariant_of-self g c = λ honest.
    let was = sym c.create.ensures.honest ∙ honest in
    created_within _ _ _ _ _ (c.self.invariant was) (c.create.ensures.transition was)

pub returns-clause-durable : goal.returns-clause-durable
returns-clause-durable g c = λ h.
    let was = ap (λ d. d.honest) c.self.view_is ∙ h in
    rw (sym c.self.view_is) (durable_shown _ _ _ _ _ (c.create.ensures.durable was))

pub returns-clause-transition : goal.returns-clause-transition
returns-clause-transition g c = λ h.
    let was = ap (λ d. d.honest) c.self.view_is ∙ h in
    rw (sym c.self.view_is) (creates_shown _ _ _ _ _ (c.self.invariant was) (c.create.ensures.transition was))
