use Rattle.std.proofs.Common.{◌≡◌, take}
use Rattle.bk_manifest.specs.Fact.{facts}
use Rattle.bk_ledgers.specs.Listed.{deletions, fences}
use Rattle.bk_ledgers.proofs.listed.ledgers_of.Given as goal

abbrev pub invariant-loop-one : goal.invariant-loop-one
invariant-loop-one l = record {
  deleted : l.listed.deleted.items ≡ deletions (facts (take l.one-index l.records));
  fenced : l.listed.fenced.items ≡ fences (facts (take l.one-index l.records));
}
