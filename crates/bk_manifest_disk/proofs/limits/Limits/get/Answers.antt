use Rattle.std.proofs.Common.{sym, ap, ◌∙◌}
use Rattle.std.specs.FinMap as map
use Rattle.bk_record.proofs.NumberMaps.{get-entries}
use Rattle.bk_manifest_disk.proofs.limits.Limits.get.Goals as goal

pub returns : goal.returns
returns c = c.copied.ensures ∙ c.get.ensures.value ∙ sym (get-entries c.self.inside.by_log.entries c.args.log)
    ∙ ap (λ m. map.get m c.args.log) c.self.view_is
