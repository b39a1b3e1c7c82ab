use Rattle.bk_log.proofs.Gains.{create_gains, put_gains}
use Rattle.bk_log.proofs.laws.logs_only_grow.Goals as goal

pub returns-clause-created : goal.returns-clause-created
returns-clause-created c = create_gains

pub returns-clause-put : goal.returns-clause-put
returns-clause-put c = put_gains
