use Rattle.std.proofs.Common.{◌≡◌, take}
use Rattle.std.specs.FinMap as files
use Rattle.bk_disk.specs.Disk.{AreLogFiles}
use Rattle.bk_disk.specs.Logs.{files_of, listed}
use Rattle.bk_disk.proofs.mem_disk.MemDisk.of.Given as goal

abbrev pub invariant-loop-log : goal.invariant-loop-log
invariant-loop-log l = record {
  so_far : files_of l.logs ≡ files.from_entries (take l.log-index (listed l.fn.files.items));
  bounded : AreLogFiles (files_of l.logs);
}
