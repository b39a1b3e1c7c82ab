use Rattle.bk_serve_dispatch.specs.Session.{idle}
use Rattle.bk_serve_dispatch.proofs.Turns.{one_step}
use Rattle.bk_serve_dispatch.proofs.session.nudge.Goals as goal

pub returns-then-course-ge-PATIENCE : goal.returns-then-course-ge-PATIENCE
returns-then-course-ge-PATIENCE g c = one_step g.S.Service.works _ _ c.work.ensures

pub returns-else-course-ge-PATIENCE : goal.returns-else-course-ge-PATIENCE
returns-else-course-ge-PATIENCE g c = idle
