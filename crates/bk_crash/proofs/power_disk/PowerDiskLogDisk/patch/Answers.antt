use Rattle.bk_disk.proofs.Failures.{patched-own}
use Rattle.bk_crash.proofs.power_disk.PowerDiskLogDisk.patch.Goals as goal

pub returns-then-fails-clause-transition : goal.returns-then-fails-clause-transition
returns-then-fails-clause-transition g c = λ _. patched-own (g.D.LogDisk.files c.args.self.now.inner) c.args.log c.args.bytes.now c.told-bytes
