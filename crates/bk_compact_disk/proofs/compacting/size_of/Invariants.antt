use Rattle.std.proofs.Common.{◌≡◌, ◌+◌, ◌-◌, ◌^◌, ◌<◌}
use Rattle.std.specs.Prelude.{min, sum}
use Rattle.std.specs.BTreeMap.{values}
use Rattle.bk_compact_disk.proofs.compacting.size_of.Given as goal

abbrev pub invariant-loop-length : goal.invariant-loop-length
invariant-loop-length l = record {
  fits : l.bytes < 2 ^ 64;
  summed : min (l.bytes + sum l.length-iterator) (2 ^ 64 - 1) ≡ min (sum (values l.lengths)) (2 ^ 64 - 1);
}
