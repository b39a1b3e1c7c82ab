use Rattle.std.proofs.Common.{◌≡◌, [], take}
use Rattle.bk_manifest.specs.Keeping.{durable}
use Rattle.bk_manifest_disk.specs.Opening.{as_records}
use Rattle.bk_manifest_disk.proofs.opening.record_lengths.Given as goal

abbrev pub invariant-loop-log : goal.invariant-loop-log
invariant-loop-log g l = record {
  honest : l.manifest.honest ≡ l.fn.manifest.honest;
  same : durable l.manifest ≡ durable l.fn.manifest;
  noted : l.fn.manifest.pending ≡ [] → l.manifest.pending ≡ as_records (take l.log-index l.logs);
}
