use Rattle.std.proofs.Common.{take, ◌∙◌, ap, subst}
use Rattle.bk_disk.specs.Disk.{Appends}
use Rattle.bk_disk.proofs.Failures.{grown_by_prefix}
use Rattle.bk_disk.proofs.fault_disk.FaultDiskLogDisk.append.Goals as goal

pub returns-then-count-clause-transition : goal.returns-then-count-clause-transition
returns-then-count-clause-transition g c = λ honest.
    let left = g.D.LogDisk.files c.append-left.new.self in
    let piece = c.args.bytes.now in
    let kept = c.min-kept.result in
    let asked = c.append-left.ensures.transition (ap (λ disk. disk.honest) c.self.view_is ∙ honest) in
    let appends = subst (λ fs. Appends fs c.args.log (take kept piece) c.append-left.result left) (ap (λ disk. disk.files) c.self.view_is) asked in
    grown_by_prefix c.args.self.now.files left c.args.log piece kept c.append-left.result appends
