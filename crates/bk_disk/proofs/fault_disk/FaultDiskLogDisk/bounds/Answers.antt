use Rattle.std.proofs.Common.{◌∙◌, ap, subst}
use Rattle.bk_disk.specs.Disk.{AreLogFiles}
use Rattle.bk_disk.proofs.fault_disk.FaultDiskLogDisk.bounds.Goals as goal

pub returns : goal.returns
returns g c = λ honest.
    subst AreLogFiles (ap (λ disk. disk.files) c.self.view_is) (c.bounds.ensures (ap (λ disk. disk.honest) c.self.view_is ∙ honest))
