use Rattle.std.proofs.Common.{IsTrue}
use Rattle.bk_compact_disk.specs.Sizes.{AreLengths}
use Rattle.bk_inspect.specs.Reading.{OnlyReads}
use Rattle.bk_compact_disk.proofs.compacting.lengths_of.Given as goal

abbrev pub invariant-loop-log : goal.invariant-loop-log
invariant-loop-log g l = record {
  reads : OnlyReads (g.D.LogDisk.honest l.fn.disk) (g.D.LogDisk.files l.fn.disk) (g.D.LogDisk.honest l.disk) (g.D.LogDisk.files l.disk);
  lengths : IsTrue (g.D.LogDisk.honest l.fn.disk) → AreLengths (g.D.LogDisk.files l.fn.disk) l.lengths;
}
