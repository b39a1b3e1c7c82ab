use Rattle.std.proofs.Common.{None, nat_lt, refl}
use Rattle.bk_serve_dispatch.specs.Session.{none, unread, point}
use Rattle.bk_serve_dispatch.proofs.Rounds.{chained}
use Rattle.bk_serve_dispatch.proofs.Turns.{cut_off, paused}
use Rattle.bk_serve_dispatch.proofs.session.serve_requests.Goals as goal

pub loop-init : goal.loop-init
loop-init g c = none

pub loop-preserved : goal.loop-preserved
loop-preserved g c =
    chained (nat_lt 1 c.args.readers.now.most) g.S.Service.answers g.S.Service.works _ _ _
    (paused (nat_lt 1 c.args.readers.now.most) g.S.Service.answers g.S.Service.works _ _ _ _ _ _ _ c.loop.invariant c.pause.ensures.state (c.pause.ensures.output c.if-not-pause.false))
    c.in-Answered.ensures

pub returns : goal.returns
returns g c = (point _ _ _ _, c.loop.invariant, (refl, unread refl refl))

pub returns-then-not-pause : goal.returns-then-not-pause
returns-then-not-pause g c = cut_off (nat_lt 1 c.args.readers.now.most) g.S.Service.answers g.S.Service.works _ _ _ _ _ _ None c.loop.invariant c.pause.ensures.state

pub returns-in-Ended : goal.returns-in-Ended
returns-in-Ended g c = (
  c.in-Ended.ensures.0,
  chained (nat_lt 1 c.args.readers.now.most) g.S.Service.answers g.S.Service.works _ _ _
      (paused (nat_lt 1 c.args.readers.now.most) g.S.Service.answers g.S.Service.works _ _ _ _ _ _ _ c.loop.invariant c.pause.ensures.state (c.pause.ensures.output c.if-not-pause.false))
      c.in-Ended.ensures.1,
  c.in-Ended.ensures.2,
)
