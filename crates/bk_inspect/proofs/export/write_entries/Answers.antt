use Rattle.std.proofs.Common.{◌≡◌, ℕ, IsTrue, IsNone, IfSome, Err, sym, ap, subst}
use Rattle.std.specs.FinMap as map
use Rattle.bk_record.specs.Files.{Files}
use Rattle.bk_disk.specs.Disk.{IsFile}
use Rattle.bk_inspect.proofs.Exports.{record_more, next_listed}
use Rattle.bk_inspect.proofs.Reading.{honest_still, read_then}
use Rattle.bk_inspect.proofs.export.write_entries.Goals as goal

pub returns-in-Err-NoLog-clause-written : goal.returns-in-Err-NoLog-clause-written
returns-in-Err-NoLog-clause-written g c = λ honest.
    let reads = c.loop-entry.invariant.reads in
    let standing = c.in-Some.standing.now in (
      standing,
      next_listed (g.D.LogDisk.files c.args.disk.now) c.loop-entry.entry-iterator c.next.new.self c.args.records.now.entries (c.in-Some.entry.now, standing) _ _
          c.in-Some.ensures.steps (c.loop-entry.invariant.wrote honest),
      subst (λ (fs : Files). IsNone (map.get fs standing.log)) (reads.1 honest)
          (c.in-Err-NoLog.ensures.gone (honest_still _ _ _ _ reads honest) (ap Err c.in-Err-NoLog.field-0-is)),
    )

pub loop-entry-preserved : goal.loop-entry-preserved
loop-entry-preserved g c =
    let reads = c.loop-entry.invariant.reads in
    let standing = c.in-Some.standing.now in
    let old = g.D.LogDisk.files c.args.disk.now in
    let current = c.in-Ok.current in
    let bytes = g.D.View.LogView.bytes current.view in
    let viewed : IsTrue (g.D.LogDisk.honest c.args.disk.now) → (current.log ≡ standing.log) × (IsFile old standing.log bytes × IsTrue (g.D.View.LogView.honest current.view)) =
    λ honest.
    let is = c.in-Ok.ensures.ok (honest_still _ _ _ _ reads honest)
    (subst (λ (fs : Files). IfSome c.loop-entry.opened (λ o. IsFile fs o.log (g.D.View.LogView.bytes o.view) × IsTrue (g.D.View.LogView.honest o.view)))
    (sym (reads.1 honest)) (c.loop-entry.invariant.opened honest)) in
    (is.0, (subst (λ (fs : Files). IsFile fs standing.log bytes) (reads.1 honest) is.1.0, is.1.1))
    in
    record {
      reads = read_then _ _ _ _ _ _ reads c.open_log.ensures.reads;
      opened = λ honest. let is = viewed honest in (subst (λ (n : ℕ). IsFile old n bytes) (sym is.0) is.1.0, is.1.1);
      wrote = λ honest.
          let is = viewed honest in
          record_more old c.loop-entry.entry-iterator c.next.new.self c.args.records.now.entries (c.in-Some.entry.now, standing) bytes _ _ _
          c.in-Some.ensures.steps is.1.0 (c.loop-entry.invariant.wrote honest) (c.in_ok-write_entry.ensures is.1.1);
    }
