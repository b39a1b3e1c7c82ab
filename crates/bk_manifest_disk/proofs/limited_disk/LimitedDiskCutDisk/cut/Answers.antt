use Rattle.std.proofs.Common.{◌∙◌, ap, sym, subst, Err}
use Rattle.bk_disk.specs.Cutting.{Cuts}
use Rattle.bk_manifest_disk.specs.Limiting.{Limiting, shown_files}
use Rattle.bk_manifest_disk.proofs.Showing.{within_cut, cut_durable}
use Rattle.bk_manifest_disk.proofs.Changing.{cuts_either, freed_within, free_now}
use Rattle.bk_manifest_disk.proofs.Cutting.{front_of_grows, front_shown, front_freed, cuts_shown, cuts_within, cuts_uncut, cuts_freed}
use Rattle.bk_manifest_disk.proofs.limited_disk.LimitedDiskCutDisk.cut.Goals as goal

pub invariant_of-self : goal.invariant_of-self
invariant_of-self g c = λ honest.
    let was = sym c.cut.ensures.honest ∙ honest in
    cuts_within _ _ _ _ _ _ (sym c.in_default.ensures) (c.self.invariant was) (c.cut.ensures.transition was)

pub returns-in_default-clause-durable : goal.returns-in_default-clause-durable
returns-in_default-clause-durable g c = λ h.
    let was = ap (λ d. d.honest) c.self.view_is ∙ h in
    rw (sym c.self.view_is) (front_shown _ _ _ _ _ _ _ (sym c.in_default.ensures) (c.cut.ensures.durable was))

pub returns-in_default-clause-transition : goal.returns-in_default-clause-transition
returns-in_default-clause-transition g c = λ h.
    let was = ap (λ d. d.honest) c.self.view_is ∙ h in
    rw (sym c.self.view_is) (cuts_shown _ _ _ _ _ _ (sym c.in_default.ensures) (c.cut.ensures.transition was))

pub invariant_of-self-in-Err : goal.invariant_of-self-in-Err
invariant_of-self-in-Err g c = λ honest.
    let was = sym c.cut-2.ensures.honest ∙ honest in
    within_cut _ _ _ _ _ (sym c.in-Some.ensures) (c.self.invariant was) (cuts_either _ _ _ _ _ (c.in-Err.ensures.transition was))

pub returns-in-Err-clause-durable : goal.returns-in-Err-clause-durable
returns-in-Err-clause-durable g c = λ h.
    let was = ap (λ d. d.honest) c.self.view_is ∙ h in
    rw (sym c.self.view_is) (front_of_grows _ _ _ _ _ _ (cut_durable _ _ _ _ _ _ _ (sym c.in-Some.ensures) (c.cut-2.ensures.durable was)))

pub returns-in-Err-clause-transition : goal.returns-in-Err-clause-transition
returns-in-Err-clause-transition g c = λ h.
    let was = ap (λ d. d.honest) c.self.view_is ∙ h in
    subst (λ (v : Limiting). Cuts {T = Unit {0}} (shown_files v.limits v.files) c.args.log c.args.length (Err c.in-Err.fault)
    (shown_files c.self.inside.limits (g.D.LogDisk.files c.cut-2.new.self))) c.self.view_is
    (cuts_uncut _ _ _ _ _ (sym c.in-Some.ensures) _ _ (c.in-Err.ensures.transition was))

pub invariant_of-self-in-Ok : goal.invariant_of-self-in-Ok
invariant_of-self-in-Ok g c = λ honest.
    let was = sym c.cut-2.ensures.honest ∙ sym c.cut-in-Ok.ensures.honest ∙ honest in
    rw c.remove.ensures (cuts_within _ _ _ _ _ _ (free_now _ (g.D.LogDisk.files c.self.inside.inner) _ _ (sym c.in-Some.ensures))
    (freed_within _ _ _ _ (sym c.in-Some.ensures) _ (c.in-Ok.ensures.transition was) (c.self.invariant was))
    (c.cut-in-Ok.ensures.transition (c.cut-2.ensures.honest ∙ was)))

pub returns-in-Ok-clause-durable : goal.returns-in-Ok-clause-durable
returns-in-Ok-clause-durable g c = λ h.
    let was = ap (λ d. d.honest) c.self.view_is ∙ h in
    rw (sym c.self.view_is, c.remove.ensures) (front_freed _ (g.D.LogDisk.files c.self.inside.inner) _ _ _ (sym c.in-Some.ensures) _ _ _ _ _ _
    (c.cut-2.ensures.durable was) (c.cut-in-Ok.ensures.durable (c.cut-2.ensures.honest ∙ was)))

pub returns-in-Ok-clause-transition : goal.returns-in-Ok-clause-transition
returns-in-Ok-clause-transition g c = λ h.
    let was = ap (λ d. d.honest) c.self.view_is ∙ h in
    rw (sym c.self.view_is, c.remove.ensures) (cuts_freed _ _ _ _ _ (sym c.in-Some.ensures) _ _ _ (c.in-Ok.ensures.transition was)
    (c.cut-in-Ok.ensures.transition (c.cut-2.ensures.honest ∙ was)))
