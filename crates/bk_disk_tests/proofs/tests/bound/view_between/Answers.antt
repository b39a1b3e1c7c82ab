use Rattle.std.proofs.Common.{◌≡◌, ◌-◌, [], ◌++◌, length, take, drop, ◌∙◌, sym, ap}
use Rattle.std.specs.FinMap as files
use Rattle.std.proofs.lemmas.List.{take_rest}
use Rattle.std.proofs.lemmas.Option.{same_Some}
use Rattle.bk_disk.specs.Disk.{files_after_append}
use Rattle.bk_record.proofs.NumberMaps.{get-insert_same}
use Rattle.bk_disk.proofs.FileMaps.{grown-insert}
use Rattle.bk_disk.proofs.Answered.{IfOk-always, IfOk-reads_view}
use Rattle.bk_disk_tests.proofs.tests.bound.view_between.Goals as goal

-- the log as the first append leaves it
after_first : (g : _) (c : goal.After-drop-view-2 g) → g.D.LogDisk.files c.append.new.self ≡ files.insert
    (g.D.LogDisk.files c.args.disk.now) c.args.log c.args.first.now
after_first g c =
    let log = c.args.log in
    let first = c.args.first.now in
    let made : g.D.LogDisk.files c.create.new.self ≡ files.insert (g.D.LogDisk.files c.args.disk.now) log [] =
    (c.in_ok-create.ensures.transition c.requires.honest).1 in
    let grew : g.D.LogDisk.files c.append.new.self ≡ files_after_append (g.D.LogDisk.files c.create.new.self) log first =
    (c.in_ok-append.ensures.transition (c.in_ok-create.ensures.honest ∙ c.requires.honest)).3 in
    rw (grew, made) (grown-insert (g.D.LogDisk.files c.args.disk.now) log [] first)

pub returns-clause-read : goal.returns-clause-read
returns-clause-read g c =
    let log = c.args.log in
    let first = c.args.first.now in
    let seen = c.in_ok-view.ensures.transition (c.in_ok-append.ensures.honest ∙ c.in_ok-create.ensures.honest ∙ c.requires.honest) in
    let bytes : g.D.View.LogView.bytes c.in_ok-view.view ≡ first =
    same_Some _ _ (sym seen.0 ∙ ap (λ fs. files.get fs log) (after_first g c) ∙ get-insert_same (g.D.LogDisk.files c.args.disk.now) log first) in
    IfOk-reads_view (λ v. v.items) (g.D.View.LogView.bytes c.in_ok-view.view) (drop 1024 first) 1024 (length first - 1024) _ (c.read_at.ensures.transition seen.1)
    (ap (λ f. take (length first - 1024) (drop 1024 f)) bytes ∙ take_rest first 1024)

pub returns-clause-files : goal.returns-clause-files
returns-clause-files g c =
    let log = c.args.log in
    let honest2 = c.in_ok-append.ensures.honest ∙ c.in_ok-create.ensures.honest ∙ c.requires.honest in
    let seen = c.in_ok-view.ensures.transition honest2 in
    let grew = c.in_ok-append-2.ensures.transition (c.in_ok-view.ensures.honest ∙ honest2) in
    IfOk-always _ _ (grew.3 ∙ ap (λ fs. files_after_append fs log c.args.second.now) (seen.2 ∙ after_first g c)
    ∙ grown-insert (g.D.LogDisk.files c.args.disk.now) log c.args.first.now c.args.second.now
    ∙ ap (λ fs. files.insert fs log (c.args.first.now ++ c.args.second.now)) c.requires.empty)
