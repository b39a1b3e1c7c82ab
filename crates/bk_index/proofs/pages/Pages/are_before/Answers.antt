use Rattle.std.proofs.Common.{◌≡◌, ◌+◌, ◌<◌, length, subst, ◌∙◌, arith}
use Rattle.std.proofs.lemmas.Bool.{eqb-true}
use Rattle.bk_index.proofs.HomePages.{read_page}
use Rattle.bk_index.proofs.RunPairs.{AreBefore}
use Rattle.bk_index.proofs.RunPages.{all_before, gap_behind}
use Rattle.bk_index.proofs.pages.Pages.are_before.Goals as goal

pub returns : goal.returns
returns c told =
    let pages = c.self.inside.list.items in
    let held = c.index-page.result.now in
    let last : c.args.at + 1 ≡ length pages = omega (arith, c.if-at-count.false, c.if-count-eq0.false, c.len-count.ensures) in
    let within : c.args.at < length pages = omega (arith, last) in
    let home = rw (← c.self.view_is) at c.requires in
    let behind : c.in-Err.place ≡ length held = eqb-true c.in-Err.place c.len-2.result told ∙ c.len-2.ensures in
    let before = gap_behind held c.args.key.now c.in-Err.place c.in-Err.ensures.absent behind in
    rw (← c.self.view_is)
    (all_before c.args.key.now pages c.args.at home last
    (subst (AreBefore c.args.key.now) (read_page pages c.args.at within held c.index-page.ensures) before))
