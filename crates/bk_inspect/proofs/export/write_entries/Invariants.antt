use Rattle.std.proofs.Common.{IsTrue, IfSome}
use Rattle.bk_disk.specs.Disk.{IsFile}
use Rattle.bk_inspect.specs.Exporting.{recorded}
use Rattle.bk_inspect.specs.Reading.{OnlyReads}
use Rattle.bk_inspect.proofs.Exports.{WroteRecords}
use Rattle.bk_inspect.proofs.export.write_entries.Given as goal

abbrev pub invariant-loop-entry : goal.invariant-loop-entry
invariant-loop-entry g l = record {
  reads : OnlyReads (g.D.LogDisk.honest l.fn.disk) (g.D.LogDisk.files l.fn.disk) (g.D.LogDisk.honest l.disk) (g.D.LogDisk.files l.disk);
  opened : IsTrue (g.D.LogDisk.honest l.fn.disk) → IfSome l.opened (λ o. IsFile (g.D.LogDisk.files l.fn.disk) o.log (g.D.View.LogView.bytes o.view)
      × IsTrue (g.D.View.LogView.honest o.view));
  wrote : IsTrue (g.D.LogDisk.honest l.fn.disk) → WroteRecords (g.D.LogDisk.files l.fn.disk) l.entry-iterator l.records.entries
      (recorded l.how.form l.how.kind (g.W.Write.contents l.fn.writer)) (recorded l.how.form l.how.kind (g.W.Write.contents l.writer));
}
