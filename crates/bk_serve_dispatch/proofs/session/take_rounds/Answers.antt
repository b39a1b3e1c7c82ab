use Rattle.std.proofs.Common.{◌≡◌, ◌∙◌, ◌<◌, arith, false, length, subst, sym, true}
use Rattle.bk_serve_dispatch.specs.Rounds.{Stands}
use Rattle.bk_serve_dispatch.proofs.PendingFrames.{not_empty}
use Rattle.bk_serve_dispatch.proofs.Rounds.{goes_ahead, stands_carried, stands_told, tells_ends}
use Rattle.bk_serve_dispatch.proofs.session.take_rounds.Goals as goal

pub returns-in-Ended : goal.returns-in-Ended
returns-in-Ended g c = λ is_ahead start before.
    let stands = c.loop.invariant is_ahead start before in
    let some : 0 < length c.loop.left.run.items = omega (arith, c.loop.left.run.ok.0, not_empty _ _ c.is_empty.ensures c.if-is_empty.false) in
    let is : is_ahead ≡ true = goes_ahead is_ahead g.S.Service.answers g.S.Service.works g.S.Job.Job.gives start _ _ _ _ _ stands.goes some in
    tells_ends is_ahead g.S.Service.answers g.S.Service.works g.S.Job.Job.gives start _ _ _ _ _ _ _ _ c.in-Ended.end
    (stands_carried is_ahead g.S.Service.answers g.S.Service.works g.S.Job.Job.gives start _ _ _ _ _ _ _ _ c.carry_run-run.ensures.run
    (c.carry_run-run.ensures.more is_ahead start c.loop.left.run.items (λ off. let e : true ≡ false = sym is ∙ off in cc) stands)) c.in-Ended.ensures.0 c.in-Ended.ensures.1

pub loop-preserved : goal.loop-preserved
loop-preserved g c = λ is_ahead start before.
    let stands = c.loop.invariant is_ahead start before in
    let some : 0 < length c.loop.left.run.items = omega (arith, c.loop.left.run.ok.0, not_empty _ _ c.is_empty.ensures c.if-is_empty.false) in
    let is : is_ahead ≡ true = goes_ahead is_ahead g.S.Service.answers g.S.Service.works g.S.Job.Job.gives start _ _ _ _ _ stands.goes some in
    subst (λ xs. Stands is_ahead g.S.Service.answers g.S.Service.works g.S.Job.Job.gives start xs c.carry_run-run.result.at c.carry_run-run.new.service (g.R.Read.remaining c.carry_run-run.new.reader) c.carry_run-run.new.buffers.frame.items (g.W.Write.contents c.tell_run.new.writer))
    (sym c.in-Left.ensures.0)
    (stands_told is_ahead g.S.Service.answers g.S.Service.works g.S.Job.Job.gives start _ _ _ _ _ _ _ _ c.in-Left.ensures.1
    (stands_carried is_ahead g.S.Service.answers g.S.Service.works g.S.Job.Job.gives start _ _ _ _ _ _ _ _ c.carry_run-run.ensures.run
    (c.carry_run-run.ensures.more is_ahead start c.loop.left.run.items (λ off. let e : true ≡ false = sym is ∙ off in cc) stands)) c.in-Left.ensures.2)
