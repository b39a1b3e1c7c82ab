use Rattle.std.proofs.Common.{◌≡◌, ◌≤◌, IsTrue}
use Rattle.bk_disk.specs.Disk.{AreLogFiles}
use Rattle.bk_inspect.specs.Exporting.{recorded}
use Rattle.bk_inspect.specs.Reading.{OnlyReads}
use Rattle.bk_inspect.proofs.export.show_export.Given as goal

abbrev pub invariant-loop : goal.invariant-loop
invariant-loop g l = record {
  reads : OnlyReads (g.D.LogDisk.honest l.fn.disk) (g.D.LogDisk.files l.fn.disk) (g.D.LogDisk.honest l.disk) (g.D.LogDisk.files l.disk);
  bound : l.status ≤ 1;
  first : IsTrue (g.D.LogDisk.honest l.fn.disk) → l.status ≡ 0 → (l.left ≡ l.fn.range)
      × (recorded l.fn.form l.fn.kind (g.W.Write.contents l.writer) ≡ recorded l.fn.form l.fn.kind (g.W.Write.contents l.fn.writer));
}
