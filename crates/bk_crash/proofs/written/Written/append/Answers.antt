use Rattle.bk_crash.specs.Noting.{longer_log}
use Rattle.bk_crash.proofs.Notes.{noted_at, noted_none}
use Rattle.bk_crash.proofs.written.Written.append.Goals as goal

pub returns-in-Ok-clause-logs : goal.returns-in-Ok-clause-logs
returns-in-Ok-clause-logs c = λ _.
    noted_at c.args.self.now.logs (c.get_mut.follows.lender c.append.new.self) c.args.log c.get_mut.result c.in-Some.written (longer_log c.args.more.now) c.append.new.self c.get_mut.ensures.value
    c.in-Some.is (c.get_mut.follows.holds c.append.new.self) c.in-Ok.ensures.ok

pub returns-in_default-clause-logs : goal.returns-in_default-clause-logs
returns-in_default-clause-logs c = λ _.
    noted_none c.args.self.now.logs _ c.args.log c.get_mut.result (longer_log c.args.more.now) c.get_mut.ensures.value c.in_default.is
    c.get_mut.follows.holds-at-none
