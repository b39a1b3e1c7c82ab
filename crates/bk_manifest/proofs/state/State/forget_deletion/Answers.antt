use Rattle.bk_manifest.proofs.Forgetting.{forgotten}
use Rattle.bk_manifest.proofs.state.State.forget_deletion.Goals as goal

pub returns-clause-ok : goal.returns-clause-ok
returns-clause-ok c = λ facts is. forgotten c.args.ledger _ facts c.args.self.now (record { last = c.insert.new.self }) c.of_deletion.ensures is c.in_ok-insert.ensures.updates.0
