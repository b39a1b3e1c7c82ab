use Rattle.bk_crash.specs.Noting.{synced_log}
use Rattle.bk_crash.proofs.Notes.{noted_at, noted_none}
use Rattle.bk_crash.proofs.written.Written.sync.Goals as goal

pub returns-in-Some-clause-logs : goal.returns-in-Some-clause-logs
returns-in-Some-clause-logs c =
    noted_at c.args.self.now.logs (c.get_mut.follows.lender c.sync.new.self) c.args.log c.get_mut.result c.in-Some.written synced_log c.sync.new.self c.get_mut.ensures.value c.in-Some.is
    (c.get_mut.follows.holds c.sync.new.self) c.sync.ensures

pub returns-in_default-clause-logs : goal.returns-in_default-clause-logs
returns-in_default-clause-logs c =
    noted_none c.args.self.now.logs _ c.args.log c.get_mut.result synced_log c.get_mut.ensures.value c.in_default.is c.get_mut.follows.holds-at-none
