use Rattle.std.proofs.Common.{length}
use Rattle.bk_manifest.specs.Fact.{facts}
use Rattle.bk_manifest.specs.Reading.{facts_of}
use Rattle.bk_manifest.proofs.Loops.{FactsLeft}
use Rattle.bk_manifest.proofs.reading.records_of.Given as goal

abbrev pub invariant-loop-rest : goal.invariant-loop-rest
invariant-loop-rest l = FactsLeft l.batch (facts l.records.items) l.rest (facts_of l.batch l.body)

abbrev pub decreases-loop-rest : goal.decreases-loop-rest
decreases-loop-rest l = length l.rest
