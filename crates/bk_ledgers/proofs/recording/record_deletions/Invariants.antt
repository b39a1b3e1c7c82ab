use Rattle.std.proofs.Common.{◌≡◌, map, take}
use Rattle.bk_manifest.specs.Fact.{deleted_ledger}
use Rattle.bk_manifest.specs.Keeping.{OnlyNoted}
use Rattle.bk_ledgers.proofs.recording.record_deletions.Given as goal

abbrev pub invariant-loop-ledger : goal.invariant-loop-ledger
invariant-loop-ledger g l = record {
  noted : l.manifest.pending ≡ map deleted_ledger (take l.ledger-index l.ledgers);
  same : OnlyNoted l.initial.manifest l.manifest;
}
