use Rattle.std.proofs.Common.{◌∙◌, ap, inl}
use Rattle.bk_disk.specs.Doubts.{noted}
use Rattle.bk_disk.proofs.Doubts.{doubts_of-insert}
use Rattle.bk_disk.proofs.trouble.Troubles.note.Goals as goal

pub returns-in-Ok : goal.returns-in-Ok
returns-in-Ok c =
    inl (doubts_of-insert c.self.inside.logs c.insert.new.self c.self.inside.is_full c.args.log c.args.trouble c.in-Ok.ensures.updates
    ∙ ap (λ d. noted d c.args.log c.args.trouble) c.self.view_is)
