use Rattle.bk_crash.proofs.Notes.{put_at}
use Rattle.bk_crash.proofs.written.Written.put.Goals as goal

pub returns-in-Ok-clause-logs : goal.returns-in-Ok-clause-logs
returns-in-Ok-clause-logs c = λ _. put_at c.args.self.now.logs c.insert.new.self c.args.log c.args.written c.in-Ok.ensures.updates
