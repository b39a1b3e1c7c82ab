use Rattle.std.proofs.Common.{◌∙◌, ap, sym}
use Rattle.bk_manifest_disk.proofs.Showing.{bounds_shown}
use Rattle.bk_manifest_disk.proofs.limited_disk.LimitedDiskLogDisk.bounds.Goals as goal

pub returns : goal.returns
returns g c = λ honest. rw (sym c.self.view_is) (bounds_shown _ _ (c.bounds.ensures (ap (λ disk. disk.honest) c.self.view_is ∙ honest)))
