use Rattle.std.proofs.Common.{◌∙◌, ap, sym, subst, Err, ◌+◌, ◌^◌, ◌<◌, ◌≤◌, length, arith}
use Rattle.bk_disk.specs.Disk.{Appends}
use Rattle.bk_manifest_disk.specs.Limiting.{Limiting, shown_files}
use Rattle.bk_disk.proofs.DurableGrows.{keeps_trans}
use Rattle.bk_manifest_disk.proofs.Grown.{appends_alike}
use Rattle.bk_manifest_disk.proofs.Showing.{durable_shown, within_alike, within_cut, cut_durable, freed_durable}
use Rattle.bk_manifest_disk.proofs.Changing.{cuts_either, freed_within, appends_shown, appends_freed, appends_uncut, append_too_long}
use Rattle.bk_manifest_disk.proofs.limited_disk.LimitedDiskLogDisk.append.Goals as goal

pub invariant_of-self : goal.invariant_of-self
invariant_of-self g c = λ honest.
    let was = sym c.append.ensures.honest ∙ honest in
    within_alike _ _ _ (c.self.invariant was) (appends_alike _ _ _ _ _ (c.append.ensures.transition was))

pub returns-in_default-clause-durable : goal.returns-in_default-clause-durable
returns-in_default-clause-durable g c = λ h.
    let was = ap (λ d. d.honest) c.self.view_is ∙ h in
    rw (sym c.self.view_is) (durable_shown _ _ _ _ _ (c.append.ensures.durable was))

pub returns-in_default-clause-transition : goal.returns-in_default-clause-transition
returns-in_default-clause-transition g c = λ h.
    let was = ap (λ d. d.honest) c.self.view_is ∙ h in
    rw (sym c.self.view_is) (appends_shown _ _ _ _ _ _ (sym c.in_default.ensures) (c.append.ensures.transition was))

pub returns-then-saturating_add-gt-MAX_LOG_LENGTH-clause-transition : goal.returns-then-saturating_add-gt-MAX_LOG_LENGTH-clause-transition
returns-then-saturating_add-gt-MAX_LOG_LENGTH-clause-transition g c = λ h.
    let was = ap (λ d. d.honest) c.self.view_is ∙ h in
    let long : 2 ^ 32 ≤ c.in-Some.limit + length c.args.bytes.now = omega arith in
    rw (sym c.self.view_is) (append_too_long _ _ _ _ (sym c.in-Some.ensures) _ (c.self.invariant was) long)

pub invariant_of-self-in-Err : goal.invariant_of-self-in-Err
invariant_of-self-in-Err g c = λ honest.
    let was = sym c.cut.ensures.honest ∙ honest in
    within_cut _ _ _ _ _ (sym c.in-Some.ensures) (c.self.invariant was) (cuts_either _ _ _ _ _ (c.in-Err.ensures.transition was))

pub returns-in-Err-clause-durable : goal.returns-in-Err-clause-durable
returns-in-Err-clause-durable g c = λ h.
    let was = ap (λ d. d.honest) c.self.view_is ∙ h in
    rw (sym c.self.view_is) (cut_durable _ _ _ _ _ _ _ (sym c.in-Some.ensures) (c.cut.ensures.durable was))

pub returns-in-Err-clause-transition : goal.returns-in-Err-clause-transition
returns-in-Err-clause-transition g c = λ h.
    let was = ap (λ d. d.honest) c.self.view_is ∙ h in
    let short : c.in-Some.limit + length c.args.bytes.now < 2 ^ 32 = omega arith in
    subst (λ (v : Limiting). Appends {T = Unit {0}} (shown_files v.limits v.files) c.args.log c.args.bytes.now (Err c.in-Err.fault)
    (shown_files c.self.inside.limits (g.D.LogDisk.files c.cut.new.self))) c.self.view_is
    (appends_uncut _ _ _ _ (sym c.in-Some.ensures) _ _ _ (c.self.invariant was) short (c.in-Err.ensures.transition was))

pub invariant_of-self-in-Ok : goal.invariant_of-self-in-Ok
invariant_of-self-in-Ok g c = λ honest.
    let was = sym c.cut.ensures.honest ∙ sym c.append-in-Ok.ensures.honest ∙ honest in
    rw c.remove.ensures (within_alike _ _ _ (freed_within _ _ _ _ (sym c.in-Some.ensures) _ (c.in-Ok.ensures.transition was) (c.self.invariant was))
    (appends_alike _ _ _ _ _ (c.append-in-Ok.ensures.transition (c.cut.ensures.honest ∙ was))))

pub returns-in-Ok-clause-durable : goal.returns-in-Ok-clause-durable
returns-in-Ok-clause-durable g c = λ h.
    let was = ap (λ d. d.honest) c.self.view_is ∙ h in
    rw (sym c.self.view_is, c.remove.ensures) (keeps_trans _ _ _ _ _ _
    (freed_durable _ _ _ _ _ _ _ (sym c.in-Some.ensures) (c.cut.ensures.durable was))
    (durable_shown _ _ _ _ _ (c.append-in-Ok.ensures.durable (c.cut.ensures.honest ∙ was))))

pub returns-in-Ok-clause-transition : goal.returns-in-Ok-clause-transition
returns-in-Ok-clause-transition g c = λ h.
    let was = ap (λ d. d.honest) c.self.view_is ∙ h in
    rw (sym c.self.view_is, c.remove.ensures) (appends_freed _ _ _ _ (sym c.in-Some.ensures) _ _ _ _ (c.in-Ok.ensures.transition was)
    (c.append-in-Ok.ensures.transition (c.cut.ensures.honest ∙ was)))
