use Rattle.std.proofs.Common.{◌≡◌, take, IsTrue}
use Rattle.std.specs.FinMap as map
use Rattle.bk_manifest_disk.specs.Opening.{HasFound}
use Rattle.bk_manifest_disk.proofs.looking.find_logs.Given as goal

abbrev pub invariant-loop-log : goal.invariant-loop-log
invariant-loop-log g l = record {
  honest : g.D.LogDisk.honest l.disk ≡ g.D.LogDisk.honest l.fn.disk;
  same : IsTrue (g.D.LogDisk.honest l.fn.disk) → g.D.LogDisk.files l.disk ≡ g.D.LogDisk.files l.fn.disk;
  gone : IsTrue (g.D.LogDisk.honest l.fn.disk) → g.D.LogDisk.gone l.disk ≡ map.empty;
  found : IsTrue (g.D.LogDisk.honest l.fn.disk) → HasFound l.state (g.D.LogDisk.files l.fn.disk) (take l.log-index l.log-items) l.found;
}
