use Rattle.std.proofs.Common.{length, ap, arith}
use Rattle.bk_index.proofs.FencedPages.{fenced_set, countable}
use Rattle.bk_index.proofs.HomePages.{put_there}
use Rattle.bk_index.proofs.pages.Pages.add.Goals as goal

pub invariant_of-self-2 : goal.invariant_of-self-2
invariant_of-self-2 c =
    let pages = c.self.inside.list.items in
    let held = c.index_mut-page.result.now in
    let sized = c.self.invariant.sizes c.args.at held (omega (arith, ap length c.self.view_is, c.requires.within)) in
    rw c.first.ensures
    (fenced_set c.self.inside.fences.items pages c.self.invariant c.args.at c.insert.new.self (
      omega (arith, c.in_ok-insert.ensures.len),
      omega
          (arith, c.in_ok-insert.ensures.len, sized.1, ap length c.index_mut-page.ensures.value, c.len.ensures, c.if-len-eq-MOST.false),
    ))

pub returns-clause-ok : goal.returns-clause-ok
returns-clause-ok c =
    let pages = c.self.inside.list.items in
    let home = rw (← c.self.view_is) at c.requires.home in
    rw (← c.self.view_is)
    (put_there pages c.args.at (omega (arith, ap length c.self.view_is, c.requires.within)) c.index_mut-page.result.now c.index_mut-page.ensures.value
    c.args.key home c.args.location c.insert.new.self c.in_ok-insert.ensures.ok)

pub returns-clause-bound : goal.returns-clause-bound
returns-clause-bound c = countable _ _ (invariant_of-self-2 c)
