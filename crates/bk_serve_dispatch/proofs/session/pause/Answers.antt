use Rattle.bk_serve_dispatch.proofs.Turns.{rested}
use Rattle.bk_serve_dispatch.proofs.session.pause.Goals as goal

pub returns-clause-state : goal.returns-clause-state
returns-clause-state g c = rested g.S.Service.works _ _ _ c.nudge.ensures c.rest.ensures
