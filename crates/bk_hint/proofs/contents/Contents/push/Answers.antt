use Rattle.bk_hint.proofs.Steps.{stands_behind}
use Rattle.bk_hint.proofs.contents.Contents.push.Goals as goal

pub note-requires-clause-behind : goal.note-requires-clause-behind
note-requires-clause-behind c =
    stands_behind c.self.inside.heads.items c.self.inside.steps.items c.self.inside.last _ c.args.at c.args.size c.self.invariant c.self.view_is c.requires
