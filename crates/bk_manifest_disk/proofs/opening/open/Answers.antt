use Rattle.std.proofs.Common.{◌∙◌, ◌++◌, ap, sym, subst, List, Err}
use Rattle.std.proofs.lemmas.Result.{err_from_is_err_and}
use Rattle.std.specs.FinMap as map
use Rattle.bk_record.specs.Files.{Files}
use Rattle.bk_manifest.specs.Fact.{Fact}
use Rattle.bk_manifest.specs.File.{content_of}
use Rattle.bk_manifest.specs.Keeping.{durable, facts_found}
use Rattle.bk_manifest_disk.specs.Table.{recorded}
use Rattle.bk_manifest_disk.specs.Limiting.{shown_files}
use Rattle.bk_manifest_disk.specs.Recording.{AreRecorded}
use Rattle.bk_manifest_disk.specs.Opening.{AreOpened, AreSynced, LacksBy, as_records, reports_by}
use Rattle.bk_manifest_disk.proofs.OpenedByManifest.{opened_shows, opened_reports, opened_recorded, lacks_by, same_recorded, told_lack}
use Rattle.bk_manifest_disk.proofs.opening.open.Goals as goal

pub new-requires-clause-recorded : goal.new-requires-clause-recorded
new-requires-clause-recorded g c = λ κs bounds honest kept.
    let here = sym c.in_ok-sync_all.ensures.honest ∙ honest in
    let was = sym c.in_ok-disk.ensures.honest ∙ here in
    let later = sym c.in_ok-manifest-2.ensures.honest ∙ kept in
    let m = sym c.in_ok-record_lengths.ensures.honest ∙ later in
    let none = c.in_ok-manifest.ensures.none (sym c.in_ok-manifest.ensures.honest ∙ m) in
    let files = c.in_ok-disk.ensures.files was in
    let first = c.in_ok-disk.field-0.disk in
    let last = c.sync_all.new.disk in
    let R = durable c.in_ok-manifest.field-0.manifest in
    let synced = subst (λ (fs : Files). AreSynced (shown_files first.limits fs) (shown_files last.limits last.kept) (map.keys (shown_files first.limits fs))) files (c.in_ok-sync_all.ensures.synced here) in
    let all = c.in_ok-record_lengths.ensures.ok m none ∙ ap (λ l. R ++ as_records l) c.deref.ensures.value in
    subst (λ (fs : Files). AreRecorded fs (shown_files last.limits last.kept) last.gone (durable c.in_ok-manifest-2.manifest) c.in_ok-manifest-2.manifest.pending)
    (sym (c.in_ok-sync_all.ensures.same here ∙ ap (shown_files first.limits) files))
    (opened_recorded c.state.result.now (g.D.LogDisk.files c.args.inner) first.limits c.in_ok-disk.field-0.reports.items c.in_ok-disk.field-0.adopted.items R (c.in_ok-disk.ensures.limited was) (c.state.ensures m)
    (shown_files last.limits last.kept) last.gone (durable c.in_ok-manifest-2.manifest) synced (c.in_ok-sync_all.ensures.gone here)
    (λ log. same_recorded (durable c.record_lengths.new.manifest) (durable c.in_ok-manifest-2.manifest) (c.in_ok-manifest-2.ensures.same later) log ∙ ap (λ (xs : List Fact). recorded xs log) all)
    c.in_ok-manifest-2.manifest.pending (c.in_ok-manifest-2.ensures.pending ∙ c.in_ok-record_lengths.ensures.none none))

pub returns-clause-opened : goal.returns-clause-opened
returns-clause-opened g c = λ h f.
    let m = c.in_ok-manifest.ensures.honest ∙ f in
    let here = c.in_ok-disk.ensures.honest ∙ h in
    let first = c.in_ok-disk.field-0.disk in
    let R = durable c.in_ok-manifest.field-0.manifest in
    subst (λ (fs : Files). AreOpened (g.D.LogDisk.files c.args.inner) (facts_found (content_of (g.F.ManifestFile.bytes c.args.file))) fs)
    (sym (ap (λ d. d.files) c.new.ensures ∙ c.in_ok-sync_all.ensures.same here ∙ ap (shown_files first.limits) (c.in_ok-disk.ensures.files h)))
    (subst (λ (xs : List Fact). AreOpened (g.D.LogDisk.files c.args.inner) xs (shown_files first.limits (g.D.LogDisk.files c.args.inner))) (c.in_ok-manifest.ensures.found f)
    (opened_shows c.state.result.now (g.D.LogDisk.files c.args.inner) first.limits c.in_ok-disk.field-0.reports.items c.in_ok-disk.field-0.adopted.items R (c.in_ok-disk.ensures.limited h) (c.state.ensures m)))

pub returns-clause-reports : goal.returns-clause-reports
returns-clause-reports g c = λ h f.
    let m = c.in_ok-manifest.ensures.honest ∙ f in
    let R = durable c.in_ok-manifest.field-0.manifest in
    opened_reports c.state.result.now (g.D.LogDisk.files c.args.inner) c.in_ok-disk.field-0.disk.limits c.in_ok-disk.field-0.reports.items c.in_ok-disk.field-0.adopted.items R (c.in_ok-disk.ensures.limited h) (c.state.ensures m)
    ∙ ap (λ (xs : List Fact). reports_by xs (g.D.LogDisk.files c.args.inner)) (c.in_ok-manifest.ensures.found f)

pub returns-in_err-disk-clause-lack : goal.returns-in_err-disk-clause-lack
returns-in_err-disk-clause-lack g c = λ h f l is.
    let m = c.in_ok-manifest.ensures.honest ∙ f in
    let told = err_from_is_err_and c.from_residual-in_err-disk.result c.from_residual-in_err-disk.ensures.1 in
    let R = durable c.in_ok-manifest.field-0.manifest in
    subst (λ (xs : List Fact). LacksBy xs (g.D.LogDisk.files c.args.inner) l) (c.in_ok-manifest.ensures.found f)
    (lacks_by c.state.result.now (g.D.LogDisk.files c.args.inner) R l (c.state.ensures m)
    (c.in_err-disk.ensures.lack h l (ap Err (told_lack told.0 c.in_err-disk.field-0.0 l c.from_residual-in_err-disk.result told.1 told.2 is)) R (c.state.ensures m)))
