use Rattle.std.proofs.Common.{[], get_or, subst, sym, ◌∙◌, IsSome}
use Rattle.std.specs.FinMap as map
use Rattle.bk_record.specs.Files.{Files}
use Rattle.bk_inspect.specs.Forms.{followed}
use Rattle.bk_inspect.specs.Shown.{IsLogLine, WritesText}
use Rattle.bk_inspect.specs.Shown.AreLines.{none}
use Rattle.bk_inspect.proofs.Lines.{appends_none, line_more}
use Rattle.bk_inspect.proofs.Listed.{listed_is_there}
use Rattle.bk_inspect.proofs.Reading.{honest_still, read_then}
use Rattle.bk_inspect.proofs.listing.show_logs.Goals as goal

pub loop-log-init : goal.loop-log-init
loop-log-init g c = (c.list_logs.ensures.reads, λ honest. ([], none, appends_none _))

pub loop-log-preserved : goal.loop-log-preserved
loop-log-preserved g c =
    let first = c.loop-log.invariant in
    let logs = c.as_slice-log-items.result.now in
    let log = get_or logs c.loop-log.log-index 0 in
    let before = followed c.args.form (g.W.Write.contents c.loop-log.writer) in
    let after = followed c.args.form (g.W.Write.contents c.show_log.new.writer) in (
      read_then _ _ _ _ _ _ first.0 c.show_log.ensures.reads,
      λ honest.
          line_more (IsLogLine (g.D.LogDisk.files c.args.disk.now)) logs c.loop-log.log-index _ _ _ c.loop-log-test.true (first.1 honest)
          (subst (λ (fs : Files). WritesText (IsLogLine fs log) before after) (first.0.1 honest)
          (c.in_ok-show_log.ensures.ok (honest_still _ _ _ _ first.0 honest)
          (subst (λ (fs : Files). IsSome (map.get fs log)) (sym (first.0.1 honest))
          (listed_is_there (g.D.LogDisk.files c.args.disk.now) logs c.loop-log.log-index (c.as_slice-log-items.ensures.value ∙ c.in_ok-ids.ensures.ok honest) c.loop-log-test.true)))),
    )
