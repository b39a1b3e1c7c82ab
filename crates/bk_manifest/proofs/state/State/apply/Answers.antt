use Rattle.bk_manifest.proofs.States.{applied}
use Rattle.bk_manifest.proofs.state.State.apply.Goals as goal

pub returns-clause-ok : goal.returns-clause-ok
returns-clause-ok c = applied c.args.self.now (record { last = c.insert.new.self }) _ c.args.one c.subject-subject.ensures c.in_ok-insert.ensures.updates.0
