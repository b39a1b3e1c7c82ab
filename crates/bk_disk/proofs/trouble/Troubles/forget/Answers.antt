use Rattle.std.proofs.Common.{◌∙◌, ap}
use Rattle.bk_disk.specs.Doubts.{forgotten}
use Rattle.bk_disk.proofs.Doubts.{doubts_of-remove}
use Rattle.bk_disk.proofs.trouble.Troubles.forget.Goals as goal

pub returns : goal.returns
returns c =
    doubts_of-remove c.self.inside.logs c.remove.new.self c.self.inside.is_full c.args.log c.remove.ensures.updates
    ∙ ap (λ d. forgotten d c.args.log) c.self.view_is
