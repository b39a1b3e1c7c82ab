use Rattle.std.proofs.Common.{◌≡◌, take}
use Rattle.std.specs.List.{AllByRecursion}
use Rattle.bk_manifest.specs.Fact.{facts, body_of, Fits}
use Rattle.bk_manifest.proofs.writing.bytes_of_records.Given as goal

abbrev pub invariant-loop-record : goal.invariant-loop-record
invariant-loop-record l = record {
  bytes : l.body.items ≡ body_of (facts (take l.record-index l.records));
  fit : AllByRecursion Fits (facts (take l.record-index l.records));
}
