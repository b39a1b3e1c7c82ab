use Rattle.std.proofs.Common.{◌+◌, ◌<◌, ◌^◌, length, set, ap, arith, rules, length-set}
use Rattle.bk_index.proofs.FencedPages.{fenced_set, fenced_insert, countable}
use Rattle.bk_index.proofs.HomePages.{split_there}
use Rattle.bk_index.proofs.pages.Pages.split.Goals as goal

pub invariant_of-self-2 : goal.invariant_of-self-2
invariant_of-self-2 c =
    let pages = c.self.inside.list.items in
    let fences = c.self.inside.fences.items in
    let at = c.args.at in
    let page = c.split.new.self in
    let within : at < length pages = omega (arith, ap length c.self.view_is, c.requires.within) in
    let room : length pages < 2 ^ 55 = search rules in
    let long = length-set pages at page in
    rw (
      c.in_ok-insert.ensures.items,
      c.in_ok-insert-2.ensures.items,
      c.first.ensures,
      c.first-2.ensures,
      c.in_ok-reserve.ensures.items,
      c.in_ok-reserve-2.ensures.items,
    )
    (fenced_insert _ (set pages at page)
    (fenced_set fences pages c.self.invariant at page (omega (arith, c.in_ok-behind.ensures.stay), omega (arith, c.in_ok-behind.ensures.stay)))
    (at + 1) c.in_ok-behind.behind (omega (arith, long)) (omega (arith, long))
    (omega (arith, c.in_ok-behind.ensures.behind), omega (arith, c.in_ok-behind.ensures.behind)))

pub returns-clause-ok : goal.returns-clause-ok
returns-clause-ok c =
    let pages = c.self.inside.list.items in
    let home = rw (← c.self.view_is) at c.requires.home in
    let read = rw c.in_ok-reserve-2.ensures.items at c.index_mut-page.ensures.value in
    rw (c.in_ok-insert-2.ensures.items, c.in_ok-reserve-2.ensures.items, ← c.self.view_is)
    (split_there pages c.args.at (omega (arith, ap length c.self.view_is, c.requires.within)) c.index_mut-page.result.now read c.args.key home c.args.location
    c.split.new.self c.in_ok-behind.behind c.in_ok-behind.ensures.ok)

pub returns-clause-bound : goal.returns-clause-bound
returns-clause-bound c = countable _ _ (invariant_of-self-2 c)
