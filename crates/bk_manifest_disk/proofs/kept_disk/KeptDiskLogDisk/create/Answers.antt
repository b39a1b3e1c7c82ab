use Rattle.std.proofs.Common.{◌∙◌, ap, sym, subst, refl, IsNone}
use Rattle.std.specs.FinMap as map
use Rattle.bk_record.specs.Files.{Files}
use Rattle.std.proofs.lemmas.Bool.{and_parts}
use Rattle.bk_manifest.specs.Fact.{made_log}
use Rattle.bk_manifest.specs.Keeping.{durable}
use Rattle.bk_manifest_disk.specs.Recording.{promise}
use Rattle.bk_disk.proofs.DurableGrows.{keeps_trans}
use Rattle.bk_manifest_disk.proofs.Grown.{alike_equal, measures_equal}
use Rattle.bk_manifest_disk.proofs.Shown.{none_is}
use Rattle.bk_manifest_disk.proofs.Recorded.{recorded_grown, made_holds, alike_rises, rises_trans}
use Rattle.bk_manifest_disk.proofs.DurableFronts.{fronts_grow}
use Rattle.bk_manifest_disk.proofs.Kept.{fronts_alike, fronts_refused, after_refusal, after_commit, commit_up, last_record, no_log, created_recorded, created_up}
use Rattle.bk_manifest_disk.proofs.kept_disk.KeptDiskLogDisk.create.Goals as goal

pub invariant_of-self : goal.invariant_of-self
invariant_of-self g c = λ honest kept.
    let was = sym c.length.ensures.honest ∙ honest in
    recorded_grown _ _ _ _ _ _ _ _ (c.self.invariant was kept) (alike_equal _ _ (measures_equal _ _ _ _ (c.length.ensures.transition was))) (c.length.ensures.durable was)

pub returns-in-Err-Disk-clause-durable : goal.returns-in-Err-Disk-clause-durable
returns-in-Err-Disk-clause-durable g c = λ h.
    let was = ap (λ d. d.honest) c.self.view_is ∙ (and_parts _ _ h).0 in
    rw (sym c.self.view_is) (fronts_alike _ _ _ _ _ _ _ (c.length.ensures.durable was) (alike_equal _ _ (measures_equal _ _ _ _ (c.length.ensures.transition was))))

pub invariant_of-self-in_default : goal.invariant_of-self-in_default
invariant_of-self-in_default g c = λ honest kept.
    let was = sym c.length.ensures.honest ∙ honest in
    recorded_grown _ _ _ _ _ _ _ _ (c.self.invariant was kept) (alike_equal _ _ (measures_equal _ _ _ _ (c.length.ensures.transition was))) (c.length.ensures.durable was)

pub returns-in_default-clause-durable : goal.returns-in_default-clause-durable
returns-in_default-clause-durable g c = λ h.
    let was = ap (λ d. d.honest) c.self.view_is ∙ (and_parts _ _ h).0 in
    rw (sym c.self.view_is) (fronts_alike _ _ _ _ _ _ _ (c.length.ensures.durable was) (alike_equal _ _ (measures_equal _ _ _ _ (c.length.ensures.transition was))))

pub invariant_of-self-in_err-record : goal.invariant_of-self-in_err-record
invariant_of-self-in_err-record g c = λ honest kept.
    let was = sym c.length.ensures.honest ∙ honest in
    let m = sym c.record.ensures.honest ∙ kept in
    let none = no_log _ _ _ _ c.in-Err-NoLog.field-0-is (c.in-Err-NoLog.ensures.transition was) in
    let absent = ap (λ fs. map.get fs c.args.log) none.1 ∙ none_is _ none.0 in
    let base = recorded_grown _ _ _ _ _ _ _ _ (c.self.invariant was m) (alike_equal _ _ none.1) (c.length.ensures.durable was) in
    after_refusal _ _ _ _ _ _ _ (made_log c.args.log) c.args.log base (made_holds _ _ _ _ absent) (c.in_err-record.ensures.err m) c.in_err-record.ensures.noted

pub returns-in_err-record-clause-durable : goal.returns-in_err-record-clause-durable
returns-in_err-record-clause-durable g c = λ h.
    let was = ap (λ d. d.honest) c.self.view_is ∙ (and_parts _ _ h).0 in
    let m = ap (λ d. d.manifest.honest) c.self.view_is ∙ (and_parts _ _ h).1 in
    rw (sym c.self.view_is) (fronts_refused _ _ _ _ _ _ _ _ (c.in_err-record.ensures.err m) (c.length.ensures.durable was)
    (alike_equal _ _ (measures_equal _ _ _ _ (c.length.ensures.transition was))))

pub invariant_of-self-2 : goal.invariant_of-self-2
invariant_of-self-2 g c = λ honest kept.
    let was = sym c.length.ensures.honest ∙ sym c.create.ensures.honest ∙ honest in
    let m = sym c.record.ensures.honest ∙ kept in
    let none = no_log _ _ _ _ c.in-Err-NoLog.field-0-is (c.in-Err-NoLog.ensures.transition was) in
    let absent = ap (λ fs. map.get fs c.args.log) none.1 ∙ none_is _ none.0 in
    let base = recorded_grown _ _ _ _ _ _ _ _ (c.self.invariant was m) (alike_equal _ _ none.1) (c.length.ensures.durable was) in
    let done = after_commit _ _ _ _ _ _ _ (made_log c.args.log) c.args.log base (made_holds _ _ _ _ absent) (c.in_ok-record.ensures.ok m) c.in_ok-record.ensures.none in
    created_recorded _ _ _ _ (c.create.ensures.transition (c.length.ensures.honest ∙ was)) _ _ _ _ _ _ done c.in_ok-record.ensures.none
    (last_record _ _ _ (made_log c.args.log) c.args.log (c.in_ok-record.ensures.ok m) refl) (c.create.ensures.durable (c.length.ensures.honest ∙ was))

pub returns-clause-durable : goal.returns-clause-durable
returns-clause-durable g c = λ h.
    let was = ap (λ d. d.honest) c.self.view_is ∙ (and_parts _ _ h).0 in
    let m = ap (λ d. d.manifest.honest) c.self.view_is ∙ (and_parts _ _ h).1 in
    let none = no_log _ _ _ _ c.in-Err-NoLog.field-0-is (c.in-Err-NoLog.ensures.transition was) in
    let absent = ap (λ fs. map.get fs c.args.log) none.1 ∙ none_is _ none.0 in
    let base = recorded_grown _ _ _ _ _ _ _ _ (c.self.invariant was m) (alike_equal _ _ none.1) (c.length.ensures.durable was) in
    let old = durable c.self.inside.manifest in
    let now = durable c.record.new.manifest in
    rw (sym c.self.view_is) (fronts_grow _ _ _ _ _ _ _ _
    (keeps_trans _ _ _ _ _ _ (c.length.ensures.durable was) (c.create.ensures.durable (c.length.ensures.honest ∙ was)))
    (λ q. rises_trans (promise (g.D.LogDisk.files c.self.inside.inner) old q) (promise (g.D.LogDisk.files c.length.new.self) old q) (promise (g.D.LogDisk.files c.create.new.self) now q)
    (alike_rises _ _ old q (alike_equal _ _ none.1))
    (created_up _ _ _ _ (c.create.ensures.transition (c.length.ensures.honest ∙ was)) old now (subst (λ (fs : Files). IsNone (map.get fs c.args.log)) (sym none.1) none.0)
    (commit_up _ _ _ old c.self.inside.manifest.pending now c.record.new.manifest.pending (made_log c.args.log) c.args.log base (made_holds _ _ _ _ absent) (c.in_ok-record.ensures.ok m)) q)))
