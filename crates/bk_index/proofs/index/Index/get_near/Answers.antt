use Rattle.std.proofs.Common.{◌∙◌}
use Rattle.bk_index.proofs.CountedPages.{get_seen}
use Rattle.bk_index.proofs.index.Index.get_near.Goals as goal

pub returns : goal.returns
returns c = c.get_near.ensures ∙ get_seen c.self.inside.pages c.self.invariant.sorted c.args.self.now c.self.view_is c.args.key.now
