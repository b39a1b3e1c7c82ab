use Rattle.std.proofs.Common.{◌≡◌, ℕ, false, is_err, IsTrue, IfErr, Err, List, [], Option, unwrap_or, sym, ap, subst, ◌∙◌}
use Rattle.std.proofs.lemmas.Result.{err_from_is_err_and}
use Rattle.bk_disk.specs.Disk.{IsFile}
use Rattle.bk_disk.specs.Durable.{IsDurable}
use Rattle.bk_store.specs.Logs.{view_of, found_log}
use Rattle.bk_store.specs.Opening.{FileFails}
use Rattle.bk_store.specs.Found.{IsTaken}
use Rattle.bk_store.proofs.OpenedSums.{when_ok}
use Rattle.bk_store.proofs.OpenedFinds.{opened_total, log_taken, scan_fails}
use Rattle.bk_store.proofs.DurableNeverShrinks.{kept_on}
use Rattle.bk_store.proofs.OpenedSynced.{both_keep}
use Rattle.bk_store.proofs.open.found.find.Goals as goal

pub scan-requires-clause-fresh : goal.scan-requires-clause-fresh
scan-requires-clause-fresh g c κs within =
    let told = c.is_err.ensures.value in
    let passed = c.if-is_err.false in
    let made : is_err c.open.result ≡ false = cc in
    opened_total _ _ _ (when_ok c.open.result made c.open.ensures.ok)

pub returns-in_err-scan-clause-err : goal.returns-in_err-scan-clause-err
returns-in_err-scan-clause-err g c = λ file honest stands.
    let told = err_from_is_err_and c.from_residual-in_err-scan.result c.from_residual-in_err-scan.ensures.1 in
    let shown = c.in_ok-view.ensures.transition (c.in_ok-check_file.ensures.honest ∙ honest) in
    subst (λ r. IfErr r (FileFails c.args.id file)) (sym (told.1 ∙ ap Err told.2))
    (scan_fails (g.D.LogDisk.files c.args.disk.now) _ c.args.id file _ _ (c.in_ok-check_file.ensures.files honest) stands shown.0
    (c.in_ok-check_file.ensures.ok file honest stands).1 (c.in_err-scan.ensures.err shown.1))

pub returns-clause-ok : goal.returns-clause-ok
returns-clause-ok g c =
    let told = c.is_err.ensures.value in
    let passed = c.if-is_err.false in
    let made : is_err c.open.result ≡ false = cc in
    let files = g.D.LogDisk.files c.args.disk.now in
    let stands : IsTrue (g.D.LogDisk.honest c.args.disk.now) → IsFile files c.args.id (g.D.View.LogView.bytes c.in_ok-view.view) = λ is.
    subst (λ fs. IsFile fs c.args.id (g.D.View.LogView.bytes c.in_ok-view.view)) (c.in_ok-check_file.ensures.files is)
    (c.in_ok-view.ensures.transition (c.in_ok-check_file.ensures.honest ∙ is)).0 in
    subst (λ v. IsTaken (g.D.LogDisk.honest c.args.disk.now) files c.args.id c.args.slot
    (found_log (view_of g.D.View.LogView.bytes g.D.View.LogView.honest g.D.View.LogView.sound v) c.args.slot c.end-end.result)
    c.args.tally.now c.scan.new.tally)
    (sym c.in-Ok.ensures.ok)
    (log_taken (g.D.LogDisk.honest c.args.disk.now) files c.args.id c.args.slot c.end-end.result
    (view_of g.D.View.LogView.bytes g.D.View.LogView.honest g.D.View.LogView.sound c.in_ok-view.view) c.args.tally.now _ c.scan.new.tally
    (ap (λ b. record c.args.tally.now { accounts = b }) (when_ok c.open.result made c.open.ensures.ok)) c.in_ok-scan.ensures.ok
    (λ is. (stands is, (c.in_ok-view.ensures.transition (c.in_ok-check_file.ensures.honest ∙ is)).1)) c.end-end.ensures
    (λ is. c.in_ok-check_file.ensures.ok (g.D.View.LogView.bytes c.in_ok-view.view) is (stands is)))

pub returns-in_err-view-clause-durable : goal.returns-in_err-view-clause-durable
returns-in_err-view-clause-durable g c = both_keep c.in_ok-check_file.ensures.honest c.in_ok-check_file.ensures.durable c.in_err-view.ensures.durable

pub returns-then-is_err-clause-durable : goal.returns-then-is_err-clause-durable
returns-then-is_err-clause-durable g c = both_keep c.in_ok-check_file.ensures.honest c.in_ok-check_file.ensures.durable c.in_ok-view.ensures.durable

pub returns-in_err-scan-clause-durable : goal.returns-in_err-scan-clause-durable
returns-in_err-scan-clause-durable g c = both_keep c.in_ok-check_file.ensures.honest c.in_ok-check_file.ensures.durable c.in_ok-view.ensures.durable

pub returns-clause-synced : goal.returns-clause-synced
returns-clause-synced g c = λ is.
    let files = g.D.LogDisk.files c.args.disk.now in
    let bytes = g.D.View.LogView.bytes c.in_ok-view.view in
    let stands : IsFile files c.args.id bytes =
    subst (λ fs. IsFile fs c.args.id bytes) (c.in_ok-check_file.ensures.files is)
    (c.in_ok-view.ensures.transition (c.in_ok-check_file.ensures.honest ∙ is)).0 in
    subst (IsDurable _ c.args.id) (sym (ap (λ (o : Option (List ℕ)). unwrap_or o []) stands))
    (kept_on (c.in_ok-view.ensures.durable (c.in_ok-check_file.ensures.honest ∙ is)) c.args.id bytes
    (c.in_ok-check_file.ensures.synced bytes is stands))
