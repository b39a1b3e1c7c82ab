use Rattle.std.proofs.Common.{sym, ◌∙◌}
use Rattle.bk_index.proofs.HomePages.{find_there}
use Rattle.bk_index.proofs.pages.Pages.get_near.Goals as goal

pub returns : goal.returns
returns c =
    let looked = c.in_ok-page.ensures.lookup in
    let pages = c.deref.ensures.value ∙ c.self.view_is in
    c.get_near.ensures ∙ sym (find_there c.args.self.now c.home-at.result (rw pages at looked.3.0) c.in_ok-page.page.now
    (rw pages at looked.1) c.args.key.now c.home-at.ensures.home)
