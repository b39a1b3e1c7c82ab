use Rattle.std.proofs.Common.{◌∙◌, ap, sym, subst, refl, Result, Err}
use Rattle.std.proofs.lemmas.Bool.{and_parts}
use Rattle.std.proofs.lemmas.Result.{err_from_is_err_and}
use Rattle.std.specs.FinMap as map
use Rattle.bk_disk.specs.Cutting.{Cuts}
use Rattle.bk_disk.specs.declared.fault.DiskFault.{DiskFault}
use Rattle.bk_manifest.specs.Keeping.{durable}
use Rattle.bk_manifest_disk.specs.Recording.{Recording, durable_fronts}
use Rattle.bk_manifest_disk.proofs.Grown.{alike_equal, measures_equal}
use Rattle.bk_manifest_disk.proofs.Recorded.{recorded_grown}
use Rattle.bk_manifest_disk.proofs.Kept.{fronts_alike, fronts_refused}
use Rattle.bk_manifest_disk.proofs.Cutting.{front_of_grows, front_after}
use Rattle.bk_manifest_disk.proofs.KeptCut.{cut_recorded, cut_fronts, forgotten, unmeasured_uncut, unrecorded_uncut}
use Rattle.bk_manifest_disk.proofs.kept_disk.KeptDiskCutDisk.cut.Goals as goal

pub invariant_of-self : goal.invariant_of-self
invariant_of-self g c = λ honest kept.
    let was = sym c.length.ensures.honest ∙ honest in
    recorded_grown _ _ _ _ _ _ _ _ (c.self.invariant was kept) (alike_equal _ _ (measures_equal _ _ _ _ (c.length.ensures.transition was))) (c.length.ensures.durable was)

pub returns-in_err-_length-clause-durable : goal.returns-in_err-_length-clause-durable
returns-in_err-_length-clause-durable g c = λ h.
    let was = ap (λ d. d.honest) c.self.view_is ∙ (and_parts _ _ h).0 in
    rw (sym c.self.view_is) (front_of_grows _ _ _ _ _ _
    (fronts_alike _ _ _ _ _ _ _ (c.length.ensures.durable was) (alike_equal _ _ (measures_equal _ _ _ _ (c.length.ensures.transition was)))))

pub invariant_of-self-in_err-shorten : goal.invariant_of-self-in_err-shorten
invariant_of-self-in_err-shorten g c = λ honest kept.
    let was = sym c.length.ensures.honest ∙ honest in
    let m = sym c.shorten.ensures.honest ∙ kept in
    let base = recorded_grown _ _ _ _ _ _ _ _ (c.self.invariant was m) (alike_equal _ _ (measures_equal _ _ _ _ (c.length.ensures.transition was))) (c.length.ensures.durable was) in
    forgotten _ _ _ _ _ _ _ base (c.in_err-shorten.ensures.err m) c.shorten.ensures.none

pub returns-in_err-shorten-clause-durable : goal.returns-in_err-shorten-clause-durable
returns-in_err-shorten-clause-durable g c = λ h.
    let was = ap (λ d. d.honest) c.self.view_is ∙ (and_parts _ _ h).0 in
    let m = ap (λ d. d.manifest.honest) c.self.view_is ∙ (and_parts _ _ h).1 in
    rw (sym c.self.view_is) (front_of_grows _ _ _ _ _ _ (fronts_refused _ _ _ _ _ _ _ _ (c.in_err-shorten.ensures.err m) (c.length.ensures.durable was)
    (alike_equal _ _ (measures_equal _ _ _ _ (c.length.ensures.transition was)))))

pub invariant_of-self-2 : goal.invariant_of-self-2
invariant_of-self-2 g c = λ honest kept.
    let was = sym c.length.ensures.honest ∙ sym c.cut.ensures.honest ∙ honest in
    let m = sym c.shorten.ensures.honest ∙ kept in
    let here = c.length.ensures.honest ∙ was in
    let turn = c.in_ok-_length.ensures.transition was in
    let base = recorded_grown _ _ _ _ _ _ _ _ (c.self.invariant was m) (alike_equal _ _ turn.3) (c.length.ensures.durable was) in
    let there = ap (λ fs. map.get fs c.args.log) turn.3 ∙ turn.1 in
    cut_recorded _ _ _ _ _ _ _ _ _ _ _ turn.0 _ base there (c.in_ok-shorten.ensures.ok m) (c.cut.ensures.durable here) (c.cut.ensures.transition here) _ c.shorten.ensures.none

pub returns-clause-durable : goal.returns-clause-durable
returns-clause-durable g c = λ h.
    let was = ap (λ d. d.honest) c.self.view_is ∙ (and_parts _ _ h).0 in
    let m = ap (λ d. d.manifest.honest) c.self.view_is ∙ (and_parts _ _ h).1 in
    let here = c.length.ensures.honest ∙ was in
    let turn = c.in_ok-_length.ensures.transition was in
    let base = recorded_grown _ _ _ _ _ _ _ _ (c.self.invariant was m) (alike_equal _ _ turn.3) (c.length.ensures.durable was) in
    let there = ap (λ fs. map.get fs c.args.log) turn.3 ∙ turn.1 in
    rw (sym c.self.view_is) (front_after _ _ _ _ _ _ _ _ (fronts_alike _ _ _ _ _ _ _ (c.length.ensures.durable was) (alike_equal _ _ turn.3))
    (cut_fronts _ _ _ _ _ _ _ _ _ _ _ turn.0 _ base there (c.in_ok-shorten.ensures.ok m) (c.cut.ensures.durable here) (c.cut.ensures.transition here)))
