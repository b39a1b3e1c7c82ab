-- When a load succeeded.
use Rattle.std.specs.Prelude.{◌≡◌, ◌<◌}
use Rattle.bk_load.specs.declared.report.Report.{Report}

-- At least one add was accepted, and each has its receipt. No add found its entry already there. No
-- entry that was taken had other bytes. No step of a worker or of the keeper failed. The files have
-- every accepted entry, every earlier entry, and no other.
pub record IsGood (r : Report) : Type 0 where
  pub some : 0 < r.adds
  pub counted : r.adds ≡ r.receipts
  pub fresh : r.held ≡ 0
  pub taken : r.wrong ≡ 0
  pub worked : r.works.faults ≡ 0
  pub found : r.checked.lost ≡ 0
  pub known : r.checked.unknown ≡ 0
  pub kept : r.checked.kept ≡ r.earlier
