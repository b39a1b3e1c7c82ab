use Rattle.std.proofs.Common.{◌≡◌, length, arith}
use Rattle.std.specs.Vec.Iter.{into_iter_items}
use Rattle.bk_serve_dispatch.proofs.BegunRuns.{drops_more, drops_whole}
use Rattle.bk_serve_dispatch.proofs.telling.drop_all.Goals as goal

pub loop-one-preserved : goal.loop-one-preserved
loop-one-preserved g c = drops_more g.J.Job.gives _ _ _ c.in-Some.one c.in-Some.ensures.steps.0 c.loop-one.invariant c.drop_reply.ensures

pub returns : goal.returns
returns g c =
    let empty : length (into_iter_items c.loop-one.one-iterator) ≡ 0 = omega (arith, c.loop-one.one-iterator.rest.ok.0, c.in-None.ensures.steps.0) in
    drops_whole g.J.Job.gives _ (into_iter_items c.loop-one.one-iterator) empty c.loop-one.invariant
