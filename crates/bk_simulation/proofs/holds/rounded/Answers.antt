use Rattle.bk_simulation.proofs.Digits.{seven}
use Rattle.bk_simulation.proofs.holds.rounded.Goals as goal

-- src/holds.rt:82:1
pub returns : goal.returns
returns c = seven c.args.cost _ _ _ c.ranges.cost.fits c.saturating_sub-digits.ensures c.saturating_sub.ensures c.min-shift.ensures
