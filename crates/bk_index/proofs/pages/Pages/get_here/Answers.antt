use Rattle.std.proofs.Common.{refl, ◌∙◌}
use Rattle.bk_index.proofs.HomePages.{find_there}
use Rattle.bk_index.proofs.Nearby.{home_here}
use Rattle.bk_index.proofs.pages.Pages.get_here.Goals as goal

pub returns-clause-value : goal.returns-clause-value
returns-clause-value c =
    let pages = c.args.self.now in
    let at = c.args.near.now.page in
    let looked = c.in_ok-page.ensures.lookup in
    let is = c.deref.ensures.value ∙ c.self.view_is in
    let home = home_here c.args.key.now pages at (rw is at looked.3.0) c.in_ok-page.page.now (rw is at looked.1) c.args.near.now.place c.requires
    (c.in_ok-location.ensures.here refl) in
    find_there pages at (rw is at looked.3.0) c.in_ok-page.page.now (rw is at looked.1) c.args.key.now home ∙ c.in_ok-location.ensures.value
