use Rattle.std.proofs.Common.{◌∙◌}
use Rattle.bk_index.proofs.CountedPages.{get_seen}
use Rattle.bk_index.proofs.index.Index.get.Goals as goal

pub returns : goal.returns
returns c = c.get.ensures ∙ get_seen c.self.inside.pages c.self.invariant.sorted c.args.self.now c.self.view_is c.args.key.now
