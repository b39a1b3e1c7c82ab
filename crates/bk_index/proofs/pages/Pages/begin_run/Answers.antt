use Rattle.std.proofs.Common.{◌≡◌, ◌<◌, ◌^◌, length, sym, ap, ◌∙◌, arith, rules}
use Rattle.bk_index.specs.Pages.{first_key}
use Rattle.bk_index.proofs.FencedPages.{fenced_push, countable}
use Rattle.bk_index.proofs.RunPages.{first_of_run, run_behind, length_behind, length_of_page}
use Rattle.bk_index.proofs.pages.Pages.begin_run.Goals as goal

pub invariant_of-self-2 : goal.invariant_of-self-2
invariant_of-self-2 c =
    let pages = c.self.inside.list.items in
    let n = c.in_ok-page.number in
    let key = c.args.key.now in
    let room : length pages < 2 ^ 55 = search rules in
    let first : key ≡ first_key c.in_ok-page.page =
    first_of_run key c.args.place c.args.size n c.in_ok-page.ensures.some ∙ ap first_key (sym c.in_ok-page.ensures.pairs) in
    let long = length_of_page pages key c.args.place c.args.size n c.in_ok-page.page c.in_ok-page.ensures.pairs in
    rw (c.in_ok-push.ensures.items, c.in_ok-push-2.ensures.items, c.in_ok-reserve.ensures.items, c.in_ok-reserve-2.ensures.items)
    (fenced_push c.self.inside.fences.items pages c.self.invariant key c.in_ok-page.page first room
    (omega (arith, long, c.in_ok-page.ensures.some), omega (arith, long, c.in_ok-page.ensures.room)))

pub returns-clause-pushed : goal.returns-clause-pushed
returns-clause-pushed c =
    let before = rw (← c.self.view_is) at c.requires.before in
    rw (c.in_ok-push-2.ensures.items, c.in_ok-reserve-2.ensures.items, ← c.self.view_is)
    (run_behind c.self.inside.list.items c.args.key.now c.args.place c.args.size c.in_ok-page.number c.in_ok-page.page c.in_ok-page.ensures.pairs before)

pub returns-clause-len : goal.returns-clause-len
returns-clause-len c =
    rw (c.in_ok-push-2.ensures.items, c.in_ok-reserve-2.ensures.items, ← c.self.view_is)
    (length_behind c.self.inside.list.items c.args.key.now c.args.place c.args.size c.in_ok-page.number c.in_ok-page.page c.in_ok-page.ensures.pairs)

pub returns-clause-few : goal.returns-clause-few
returns-clause-few c = countable _ _ (invariant_of-self-2 c)
