use Rattle.std.proofs.Common.{arith}
use Rattle.bk_manifest.proofs.States.{counted, weighs}
use Rattle.bk_manifest.proofs.state.State.live.Goals as goal

pub overflow_add-live : goal.overflow_add-live
overflow_add-live c = record {
  fits = omega (arith, c.loop-said.invariant.fits, weighs _ _ _ _ c.in-Some.ensures.steps, c.weight-live.ensures, c.iter-said-items.ensures.fits);
}

pub loop-said-preserved : goal.loop-said-preserved
loop-said-preserved c = record {
  count = omega (arith, c.loop-said.invariant.count, counted _ _ _ _ c.in-Some.ensures.steps, c.weight-live.ensures);
  fits = omega (arith, c.loop-said.invariant.fits, weighs _ _ _ _ c.in-Some.ensures.steps, c.weight-live.ensures);
}
