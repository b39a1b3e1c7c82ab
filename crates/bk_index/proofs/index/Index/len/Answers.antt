use Rattle.std.proofs.Common.{◌∙◌}
use Rattle.bk_index.proofs.CountedPages.{len_seen}
use Rattle.bk_index.proofs.index.Index.len.Goals as goal

pub returns : goal.returns
returns c = c.self.invariant.counted ∙ len_seen c.self.inside.pages c.self.invariant.sorted c.args.self.now c.self.view_is
