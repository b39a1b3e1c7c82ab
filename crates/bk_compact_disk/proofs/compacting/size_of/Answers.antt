use Rattle.bk_compact_disk.proofs.Sums.{all_summed}
use Rattle.bk_compact_disk.proofs.compacting.size_of.Goals as goal

pub returns : goal.returns
returns c = record {
  logs = c.len.ensures.len;
  bytes = all_summed _ _ _ c.in-None.ensures.steps.0 c.loop-length.invariant.fits c.loop-length.invariant.summed;
}
