use Rattle.std.proofs.Common.{◌∙◌, ap, sym}
use Rattle.std.proofs.lemmas.Bool.{and_parts}
use Rattle.bk_manifest_disk.proofs.Grown.{alike_equal, measures_equal}
use Rattle.bk_manifest_disk.proofs.Recorded.{recorded_grown}
use Rattle.bk_manifest_disk.proofs.Kept.{fronts_alike}
use Rattle.bk_manifest_disk.proofs.kept_disk.KeptDiskLogDisk.length.Goals as goal

pub invariant_of-self : goal.invariant_of-self
invariant_of-self g c = λ honest kept.
    let was = sym c.length.ensures.honest ∙ honest in
    recorded_grown _ _ _ _ _ _ _ _ (c.self.invariant was kept) (alike_equal _ _ (measures_equal _ _ _ _ (c.length.ensures.transition was))) (c.length.ensures.durable was)

pub returns-clause-durable : goal.returns-clause-durable
returns-clause-durable g c = λ h.
    let was = ap (λ d. d.honest) c.self.view_is ∙ (and_parts _ _ h).0 in
    rw (sym c.self.view_is) (fronts_alike _ _ _ _ _ _ _ (c.length.ensures.durable was) (alike_equal _ _ (measures_equal _ _ _ _ (c.length.ensures.transition was))))
