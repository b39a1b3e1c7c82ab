use Rattle.std.proofs.Common.{◌≡◌, length, arith}
use Rattle.std.specs.Vec.Iter.{into_iter_items}
use Rattle.bk_serve_dispatch.proofs.BegunRuns.{tells_more, tells_whole}
use Rattle.bk_serve_dispatch.proofs.telling.tell_all.Goals as goal

pub loop-one-preserved-in-None-how : goal.loop-one-preserved-in-None-how
loop-one-preserved-in-None-how g c =
    tells_more g.J.Job.gives _ _ _ _ _ _ c.in-Some.one c.loop-one.how c.tell-how.result c.in-None-how.is c.in-Some.ensures.steps.0 c.loop-one.invariant c.tell-how.ensures

pub returns : goal.returns
returns g c =
    let empty : length (into_iter_items c.loop-one.one-iterator) ≡ 0 = omega (arith, c.loop-one.one-iterator.rest.ok.0, c.in-None.ensures.steps.0) in
    tells_whole g.J.Job.gives _ _ _ (into_iter_items c.loop-one.one-iterator) c.loop-one.how empty c.loop-one.invariant
