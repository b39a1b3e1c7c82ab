use Rattle.bk_index.proofs.CountedPages.{entries_seen, page_lens}
use Rattle.bk_index.proofs.index.Index.as_pages.Goals as goal

pub returns-clause-items : goal.returns-clause-items
returns-clause-items c = entries_seen c.self.inside.pages c.self.invariant.sorted c.args.self.now c.self.view_is

pub returns-clause-lens : goal.returns-clause-lens
returns-clause-lens c =
    page_lens c.self.inside.pages c.self.invariant.sorted c.args.self.now c.self.view_is c.len-pages.ensures.sizes
