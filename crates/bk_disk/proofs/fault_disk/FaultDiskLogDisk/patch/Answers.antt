use Rattle.std.proofs.Common.{◌∙◌, ap}
use Rattle.bk_disk.proofs.Failures.{patched-own}
use Rattle.bk_disk.proofs.fault_disk.FaultDiskLogDisk.patch.Goals as goal

pub returns-then-count-clause-transition : goal.returns-then-count-clause-transition
returns-then-count-clause-transition g c = λ _.
    let own = patched-own c.args.self.now.files c.args.log c.args.bytes.now c.told-bytes in
    (own.0, own.1, ap (λ disk. disk.files) c.self.view_is ∙ own.2)
