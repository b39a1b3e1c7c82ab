use Rattle.bk_crash.specs.Noting.{cut_log}
use Rattle.bk_crash.proofs.Notes.{noted_at, noted_none}
use Rattle.bk_crash.proofs.written.Written.cut.Goals as goal

pub returns-in-Some-clause-logs : goal.returns-in-Some-clause-logs
returns-in-Some-clause-logs c =
    noted_at c.args.self.now.logs (c.get_mut.follows.lender c.cut.new.self) c.args.log c.get_mut.result c.in-Some.written (cut_log c.args.length) c.cut.new.self c.get_mut.ensures.value c.in-Some.is
    (c.get_mut.follows.holds c.cut.new.self) c.cut.ensures

pub returns-in_default-clause-logs : goal.returns-in_default-clause-logs
returns-in_default-clause-logs c =
    noted_none c.args.self.now.logs _ c.args.log c.get_mut.result (cut_log c.args.length) c.get_mut.ensures.value c.in_default.is c.get_mut.follows.holds-at-none
