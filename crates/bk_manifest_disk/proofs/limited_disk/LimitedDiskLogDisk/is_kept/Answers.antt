use Rattle.std.proofs.Common.{◌∙◌, ap, sym}
use Rattle.bk_manifest_disk.proofs.Showing.{all_durable_shown}
use Rattle.bk_manifest_disk.proofs.limited_disk.LimitedDiskLogDisk.is_kept.Goals as goal

pub returns : goal.returns
returns g c = λ honest is. rw (sym c.self.view_is) (all_durable_shown _ _ _ _ (c.is_kept.ensures (ap (λ disk. disk.honest) c.self.view_is ∙ honest) is))
