use Rattle.std.proofs.Common.{◌∙◌, ap, sym}
use Rattle.std.proofs.lemmas.Bool.{and_parts}
use Rattle.std.specs.Cmp.Derive.{both_true}
use Rattle.bk_disk.proofs.DurableGrows.{keeps_trans}
use Rattle.bk_manifest_disk.proofs.Grown.{patches_alike}
use Rattle.bk_manifest_disk.proofs.Recorded.{recorded_grown}
use Rattle.bk_manifest_disk.proofs.Kept.{fronts_alike}
use Rattle.bk_manifest_disk.proofs.kept_disk.KeptDiskLogDisk.patch.Goals as goal

pub invariant_of-self : goal.invariant_of-self
invariant_of-self g c = λ honest kept.
    let was = sym c.patch.ensures.honest ∙ honest in
    recorded_grown _ _ _ _ _ _ _ _ (c.self.invariant was kept) (patches_alike _ _ _ _ _ c.told-bytes (c.patch.ensures.transition was)) (c.patch.ensures.durable was)

pub returns-in_err-patch-clause-durable : goal.returns-in_err-patch-clause-durable
returns-in_err-patch-clause-durable g c = λ h.
    let was = ap (λ d. d.honest) c.self.view_is ∙ (and_parts _ _ h).0 in
    rw (sym c.self.view_is) (fronts_alike _ _ _ _ _ _ _ (c.patch.ensures.durable was) (patches_alike _ _ _ _ _ c.told-bytes (c.patch.ensures.transition was)))

pub invariant_of-self-2 : goal.invariant_of-self-2
invariant_of-self-2 g c = λ honest kept.
    let was = sym c.patch.ensures.honest ∙ honest in
    recorded_grown _ _ _ _ _ _ _ _ (c.self.invariant was kept) (patches_alike _ _ _ _ _ c.told-bytes (c.patch.ensures.transition was)) (c.patch.ensures.durable was)

pub returns-then-eq-clause-durable : goal.returns-then-eq-clause-durable
returns-then-eq-clause-durable g c = λ h.
    let was = ap (λ d. d.honest) c.self.view_is ∙ (and_parts _ _ h).0 in
    let m = ap (λ d. d.manifest.honest) c.self.view_is ∙ (and_parts _ _ h).1 in
    rw (sym c.self.view_is) (keeps_trans _ _ _ _ _ _ (fronts_alike _ _ _ _ _ _ _ (c.patch.ensures.durable was) (patches_alike _ _ _ _ _ c.told-bytes (c.patch.ensures.transition was)))
    (c.sync.ensures.durable (both_true (c.patch.ensures.honest ∙ was) m)))

pub returns-clause-durable : goal.returns-clause-durable
returns-clause-durable g c = λ h.
    let was = ap (λ d. d.honest) c.self.view_is ∙ (and_parts _ _ h).0 in
    let m = ap (λ d. d.manifest.honest) c.self.view_is ∙ (and_parts _ _ h).1 in
    rw (sym c.self.view_is) (keeps_trans _ _ _ _ _ _ (fronts_alike _ _ _ _ _ _ _ (c.patch.ensures.durable was) (patches_alike _ _ _ _ _ c.told-bytes (c.patch.ensures.transition was)))
    (c.sync.ensures.durable (both_true (c.patch.ensures.honest ∙ was) m)))
