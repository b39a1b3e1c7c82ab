use Rattle.std.proofs.Common.{ap, ◌∙◌}
use Rattle.std.specs.FinMap as map
use Rattle.bk_record.proofs.NumberMaps.{removed}
use Rattle.bk_manifest_disk.proofs.limits.Limits.remove.Goals as goal

pub returns : goal.returns
returns c = removed c.self.inside.by_log.entries c.remove.new.self.entries c.args.log c.remove.ensures.updates.0
    ∙ ap (λ m. map.remove m c.args.log) c.self.view_is
