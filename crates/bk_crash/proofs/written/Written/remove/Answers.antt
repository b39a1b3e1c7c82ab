use Rattle.std.proofs.Common.{sym, ap, ◌∙◌}
use Rattle.std.specs.FinMap as map
use Rattle.bk_record.proofs.NumberMaps.{get-entries}
use Rattle.bk_crash.specs.AllLogs.{logs_of, gone_of}
use Rattle.bk_crash.proofs.Notes.{put_file, removed_at, with_it, without_it}
use Rattle.bk_crash.proofs.written.Written.remove.Goals as goal

pub returns-in-Ok-clause-logs : goal.returns-in-Ok-clause-logs
returns-in-Ok-clause-logs c = removed_at c.args.self.now.logs c.remove.new.self c.args.log c.remove.ensures.updates

pub returns-in-Some-clause-logs : goal.returns-in-Some-clause-logs
returns-in-Some-clause-logs c = removed_at c.args.self.now.logs c.remove.new.self c.args.log c.remove.ensures.updates

pub returns-clause-logs : goal.returns-clause-logs
returns-clause-logs c = removed_at c.args.self.now.logs c.remove.new.self c.args.log c.remove.ensures.updates

pub returns-in-Ok-clause-gone : goal.returns-in-Ok-clause-gone
returns-in-Ok-clause-gone c = λ _.
    put_file c.args.self.now.gone c.insert.new.self c.args.log c.into_bytes.result c.in-Ok.ensures.updates
    ∙ ap (map.insert (gone_of c.args.self.now) c.args.log) c.into_bytes.ensures
    ∙ with_it (gone_of c.args.self.now) (logs_of c.args.self.now) c.args.log c.in-Some.written
    (get-entries c.args.self.now.logs.entries c.args.log ∙ sym c.remove.ensures.value ∙ c.in-Some.is)

pub returns-clause-gone : goal.returns-clause-gone
returns-clause-gone c = λ _.
    without_it (gone_of c.args.self.now) (logs_of c.args.self.now) c.args.log
    (get-entries c.args.self.now.logs.entries c.args.log ∙ sym c.remove.ensures.value ∙ c.in_default.is)
