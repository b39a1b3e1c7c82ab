use Rattle.std.proofs.Common.{◌≡◌, take, IsTrue}
use Rattle.std.specs.FinMap as map
use Rattle.bk_manifest_disk.specs.Opening.{AreSynced}
use Rattle.bk_manifest_disk.proofs.opening.sync_all.Given as goal

abbrev pub invariant-loop-log : goal.invariant-loop-log
invariant-loop-log g l = record {
  honest : g.D.LogDisk.honest l.disk ≡ g.D.LogDisk.honest l.fn.disk;
  same : IsTrue (g.D.LogDisk.honest l.fn.disk) → g.D.LogDisk.files l.disk ≡ g.D.LogDisk.files l.fn.disk;
  gone : IsTrue (g.D.LogDisk.honest l.fn.disk) → g.D.LogDisk.gone l.disk ≡ map.empty;
  synced : IsTrue (g.D.LogDisk.honest l.fn.disk) → AreSynced (g.D.LogDisk.files l.fn.disk) (g.D.LogDisk.synced l.disk) (take l.log-index l.log-items);
}
