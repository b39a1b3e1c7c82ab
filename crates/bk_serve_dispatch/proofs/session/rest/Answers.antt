use Rattle.bk_serve_dispatch.specs.Session.{idle, step}
use Rattle.bk_serve_dispatch.proofs.session.rest.Goals as goal

pub loop-init : goal.loop-init
loop-init g c = idle

pub loop-preserved : goal.loop-preserved
loop-preserved g c = step c.loop.invariant c.work.ensures
