-- The report of a load, from the results of its callers and what was on the disk before.
use Rattle.std.specs.Prelude.{◌≡◌, vec_len}
use Rattle.bk_load.specs.declared.before.Before.{Before}
use Rattle.bk_load.specs.declared.done.Done.{Done}
use Rattle.bk_load.specs.declared.keeper.Keeper.{Keeper}
use Rattle.bk_load.specs.declared.report.Report.{Report}

-- The report has the sums of the callers.
pub record ReportsCallers (done : Done) (r : Report) : Type 0 where
  pub receipts : r.receipts ≡ vec_len done.receipts
  pub bytes : r.bytes ≡ done.bytes
  pub held : r.held ≡ done.held
  pub refused : r.refused ≡ done.refused
  pub takes : r.takes ≡ done.takes
  pub wrong : r.wrong ≡ done.wrong
  pub deletes : r.deletes ≡ vec_len done.dead

-- The report has the entries that the disk had before, and what the keeper did with the logs.
pub record ReportsLogs (before : Before) (keeper : Keeper) (r : Report) : Type 0 where
  pub earlier : r.earlier ≡ before.entries
  pub compacted : r.logs.compacted ≡ keeper.compacted
  pub removed : r.logs.removed ≡ keeper.removed
