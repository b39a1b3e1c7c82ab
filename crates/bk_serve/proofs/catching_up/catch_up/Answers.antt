use Rattle.bk_serve.proofs.CatchUp.{caught}
use Rattle.bk_serve.proofs.catching_up.catch_up.Goals as goal

pub returns : goal.returns
returns g c = caught c.args.ledger _ _ _ _ c.carry_out.result c.in_ok-settle.ensures c.carry_out.ensures
