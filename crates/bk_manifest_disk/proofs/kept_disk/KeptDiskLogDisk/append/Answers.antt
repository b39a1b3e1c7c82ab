use Rattle.std.proofs.Common.{◌∙◌, ap, sym}
use Rattle.std.proofs.lemmas.Bool.{and_parts}
use Rattle.bk_manifest_disk.proofs.Grown.{appends_alike}
use Rattle.bk_manifest_disk.proofs.Recorded.{recorded_grown}
use Rattle.bk_manifest_disk.proofs.Kept.{fronts_alike}
use Rattle.bk_manifest_disk.proofs.kept_disk.KeptDiskLogDisk.append.Goals as goal

pub invariant_of-self : goal.invariant_of-self
invariant_of-self g c = λ honest kept.
    let was = sym c.append.ensures.honest ∙ honest in
    recorded_grown _ _ _ _ _ _ _ _ (c.self.invariant was kept) (appends_alike _ _ _ _ _ (c.append.ensures.transition was)) (c.append.ensures.durable was)

pub returns-clause-durable : goal.returns-clause-durable
returns-clause-durable g c = λ h.
    let was = ap (λ d. d.honest) c.self.view_is ∙ (and_parts _ _ h).0 in
    rw (sym c.self.view_is) (fronts_alike _ _ _ _ _ _ _ (c.append.ensures.durable was) (appends_alike _ _ _ _ _ (c.append.ensures.transition was)))
