use Rattle.std.proofs.Common.{length, ◌≤◌, ◌-◌}
use Rattle.bk_manifest.specs.Fact.{facts}
use Rattle.bk_manifest.specs.Batch.{found_from}
use Rattle.bk_manifest.proofs.Loops.{BatchesLeft}
use Rattle.bk_manifest.proofs.reading.found_in.Given as goal

abbrev pub invariant-batches : goal.invariant-batches
invariant-batches l = record {
  inside : l.place ≤ length l.file;
  left : BatchesLeft l.generation l.file (facts l.records.items) l.place (found_from (length l.file) l.generation l.file 24);
}

abbrev pub decreases-batches : goal.decreases-batches
decreases-batches l = length l.file - l.place
