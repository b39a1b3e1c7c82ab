use Rattle.std.proofs.Common.{◌∙◌, ap, sym, subst, refl, unwrap_or, Result, Err}
use Rattle.std.proofs.lemmas.Bool.{and_parts}
use Rattle.std.proofs.lemmas.Result.{err_from_is_err_and}
use Rattle.std.specs.FinMap as map
use Rattle.bk_disk.specs.Durable.{RemoveDurability}
use Rattle.bk_disk.specs.declared.fault.DiskFault.{DiskFault}
use Rattle.bk_manifest.specs.Fact.{removed_log}
use Rattle.bk_manifest.specs.Keeping.{durable}
use Rattle.bk_manifest.specs.State.{the_log, log_state}
use Rattle.bk_manifest_disk.specs.Recording.{Recording, durable_fronts, promised}
use Rattle.bk_manifest_disk.proofs.Grown.{alike_equal, measures_equal}
use Rattle.bk_manifest_disk.proofs.Changing.{removal_of_grows}
use Rattle.bk_manifest_disk.proofs.Recorded.{recorded_grown, removal_holds}
use Rattle.bk_manifest_disk.proofs.Kept.{fronts_alike, fronts_refused, after_refusal, after_commit, commit_up, last_record, removed_recorded, removal_durable}
use Rattle.bk_manifest_disk.proofs.kept_disk.KeptDiskLogDisk.remove.Goals as goal

pub invariant_of-self : goal.invariant_of-self
invariant_of-self g c = λ honest kept.
    let was = sym c.length.ensures.honest ∙ honest in
    recorded_grown _ _ _ _ _ _ _ _ (c.self.invariant was kept) (alike_equal _ _ (measures_equal _ _ _ _ (c.length.ensures.transition was))) (c.length.ensures.durable was)

pub returns-in_err-_length-clause-durable : goal.returns-in_err-_length-clause-durable
returns-in_err-_length-clause-durable g c = λ h.
    let was = ap (λ d. d.honest) c.self.view_is ∙ (and_parts _ _ h).0 in
    let told = err_from_is_err_and c.from_residual.result c.from_residual.ensures.1 in
    let now = durable_fronts (g.D.LogDisk.files c.length.new.self) (durable c.self.inside.manifest) (g.D.LogDisk.synced c.length.new.self) in
    subst (λ (r : Result (Unit {0}) DiskFault). RemoveDurability c.args.self.now.files c.args.log r
    (durable_fronts c.args.self.now.files (durable c.args.self.now.manifest) c.args.self.now.kept) c.args.self.now.gone now (g.D.LogDisk.gone c.length.new.self)) (sym (told.1 ∙ ap Err told.2))
    (subst (λ (v : Recording). RemoveDurability {T = Unit {0}} v.files c.args.log (Err c.in_err-_length.field-0.0)
    (durable_fronts v.files (durable v.manifest) v.kept) v.gone now (g.D.LogDisk.gone c.length.new.self)) c.self.view_is
    (removal_of_grows _ _ _ _ _ _ _ (fronts_alike _ _ _ _ _ _ _ (c.length.ensures.durable was) (alike_equal _ _ (measures_equal _ _ _ _ (c.length.ensures.transition was))))))

pub invariant_of-self-in_err-record : goal.invariant_of-self-in_err-record
invariant_of-self-in_err-record g c = λ honest kept.
    let was = sym c.length.ensures.honest ∙ honest in
    let m = sym c.record.ensures.honest ∙ kept in
    let turn = c.in_ok-_length.ensures.transition was in
    let base = recorded_grown _ _ _ _ _ _ _ _ (c.self.invariant was m) (alike_equal _ _ turn.3) (c.length.ensures.durable was) in
    let there = ap (λ fs. map.get fs c.args.log) turn.3 ∙ turn.1 in
    let size = c.durable_length-length.ensures ∙ ap (λ o. unwrap_or (promised (log_state o)) 0) (c.state.ensures m (the_log c.args.log)) in
    after_refusal _ _ _ _ _ _ _ (removed_log c.args.log c.durable_length-length.result) c.args.log base (removal_holds _ _ _ _ _ _ _ turn.0 base there size)
    (c.in_err-record.ensures.err m) c.in_err-record.ensures.noted

pub returns-in_err-record-clause-durable : goal.returns-in_err-record-clause-durable
returns-in_err-record-clause-durable g c = λ h.
    let was = ap (λ d. d.honest) c.self.view_is ∙ (and_parts _ _ h).0 in
    let m = ap (λ d. d.manifest.honest) c.self.view_is ∙ (and_parts _ _ h).1 in
    let told = err_from_is_err_and c.from_residual-in_err-record.result c.from_residual-in_err-record.ensures.1 in
    let now = durable_fronts (g.D.LogDisk.files c.length.new.self) (durable c.record.new.manifest) (g.D.LogDisk.synced c.length.new.self) in
    subst (λ (r : Result (Unit {0}) DiskFault). RemoveDurability c.args.self.now.files c.args.log r
    (durable_fronts c.args.self.now.files (durable c.args.self.now.manifest) c.args.self.now.kept) c.args.self.now.gone now (g.D.LogDisk.gone c.length.new.self)) (sym (told.1 ∙ ap Err told.2))
    (subst (λ (v : Recording). RemoveDurability {T = Unit {0}} v.files c.args.log (Err c.in_err-record.field-0.0)
    (durable_fronts v.files (durable v.manifest) v.kept) v.gone now (g.D.LogDisk.gone c.length.new.self)) c.self.view_is
    (removal_of_grows _ _ _ _ _ _ _ (fronts_refused _ _ _ _ _ _ _ _ (c.in_err-record.ensures.err m) (c.length.ensures.durable was)
    (alike_equal _ _ (measures_equal _ _ _ _ (c.length.ensures.transition was))))))

pub invariant_of-self-2 : goal.invariant_of-self-2
invariant_of-self-2 g c = λ honest kept.
    let was = sym c.length.ensures.honest ∙ sym c.remove.ensures.honest ∙ honest in
    let m = sym c.record.ensures.honest ∙ kept in
    let turn = c.in_ok-_length.ensures.transition was in
    let base = recorded_grown _ _ _ _ _ _ _ _ (c.self.invariant was m) (alike_equal _ _ turn.3) (c.length.ensures.durable was) in
    let there = ap (λ fs. map.get fs c.args.log) turn.3 ∙ turn.1 in
    let size = c.durable_length-length.ensures ∙ ap (λ o. unwrap_or (promised (log_state o)) 0) (c.state.ensures m (the_log c.args.log)) in
    let done = after_commit _ _ _ _ _ _ _ (removed_log c.args.log c.durable_length-length.result) c.args.log base (removal_holds _ _ _ _ _ _ _ turn.0 base there size)
    (c.in_ok-record.ensures.ok m) c.in_ok-record.ensures.none in
    removed_recorded _ _ _ _ _ _ _ _ _ _ _ done c.in_ok-record.ensures.none
    (last_record _ _ _ (removed_log c.args.log c.durable_length-length.result) c.args.log (c.in_ok-record.ensures.ok m) refl)
    (c.remove.ensures.durable (c.length.ensures.honest ∙ was)) (c.remove.ensures.transition (c.length.ensures.honest ∙ was))

pub returns-clause-durable : goal.returns-clause-durable
returns-clause-durable g c = λ h.
    let was = ap (λ d. d.honest) c.self.view_is ∙ (and_parts _ _ h).0 in
    let m = ap (λ d. d.manifest.honest) c.self.view_is ∙ (and_parts _ _ h).1 in
    let turn = c.in_ok-_length.ensures.transition was in
    let base = recorded_grown _ _ _ _ _ _ _ _ (c.self.invariant was m) (alike_equal _ _ turn.3) (c.length.ensures.durable was) in
    let there = ap (λ fs. map.get fs c.args.log) turn.3 ∙ turn.1 in
    let size = c.durable_length-length.ensures ∙ ap (λ o. unwrap_or (promised (log_state o)) 0) (c.state.ensures m (the_log c.args.log)) in
    rw (sym c.self.view_is) (removal_durable _ _ _ _ _ _ _ _ _ _ _ _ _ turn.3 (c.length.ensures.durable was)
    (commit_up _ _ _ _ _ _ c.record.new.manifest.pending (removed_log c.args.log c.durable_length-length.result) c.args.log base (removal_holds _ _ _ _ _ _ _ turn.0 base there size)
    (c.in_ok-record.ensures.ok m))
    (c.remove.ensures.durable (c.length.ensures.honest ∙ was)) (c.remove.ensures.transition (c.length.ensures.honest ∙ was)))
