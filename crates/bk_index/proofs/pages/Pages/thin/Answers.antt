use Rattle.std.proofs.Common.{◌<◌, length, ap, arith}
use Rattle.bk_index.proofs.FencedPages.{fenced_set, fenced_remove, length_set, length_remove, countable}
use Rattle.bk_index.proofs.HomePages.{read_page}
use Rattle.bk_index.proofs.pages.Pages.thin.Goals as goal

-- the page is empty afterwards
pub invariant_of-self : goal.invariant_of-self
invariant_of-self c =
    rw (c.remove.ensures.items, c.remove-then-len-eq0.ensures.items)
    (fenced_remove c.self.inside.fences.items c.self.inside.list.items c.self.invariant c.args.at c.drop_ledger-dropped.new.self)

pub returns-then-len-eq0-clause-count : goal.returns-then-len-eq0-clause-count
returns-then-len-eq0-clause-count c =
    let pages = c.self.inside.list.items in
    let at = c.args.at in
    let page = c.drop_ledger-dropped.new.self in
    let within : at < length pages = omega (arith, ap length c.self.view_is, c.requires) in
    let held = read_page pages at within c.index_mut-page.result.now c.index_mut-page.ensures.value in
    rw (c.remove-then-len-eq0.ensures.items, ← c.self.view_is)
    (omega (arith, length_remove pages at page within, c.drop_ledger-dropped.ensures.count, ap length held, c.len.ensures, c.if-len-eq0.true))

pub returns-then-len-eq0-clause-bound : goal.returns-then-len-eq0-clause-bound
returns-then-len-eq0-clause-bound c = rw (← c.self.view_is) (countable c.self.inside.fences.items c.self.inside.list.items c.self.invariant)

-- the page has a pair left
pub invariant_of-self-else-len-eq0 : goal.invariant_of-self-else-len-eq0
invariant_of-self-else-len-eq0 c =
    let held = c.index_mut-page.result.now in
    let sized = c.self.invariant.sizes c.args.at held (omega (arith, ap length c.self.view_is, c.requires)) in
    rw c.first.ensures
    (fenced_set c.self.inside.fences.items c.self.inside.list.items c.self.invariant c.args.at c.drop_ledger-dropped.new.self
    (omega (arith, c.len.ensures, c.if-len-eq0.false), omega (arith, sized.1, ap length c.index_mut-page.ensures.value, c.drop_ledger-dropped.ensures.count)))

pub returns-else-len-eq0-clause-count : goal.returns-else-len-eq0-clause-count
returns-else-len-eq0-clause-count c =
    let pages = c.self.inside.list.items in
    let at = c.args.at in
    let within : at < length pages = omega (arith, ap length c.self.view_is, c.requires) in
    let held = read_page pages at within c.index_mut-page.result.now c.index_mut-page.ensures.value in
    rw (← c.self.view_is) (omega (arith, length_set pages at c.drop_ledger-dropped.new.self within, c.drop_ledger-dropped.ensures.count, ap length held))

pub returns-else-len-eq0-clause-bound : goal.returns-else-len-eq0-clause-bound
returns-else-len-eq0-clause-bound c = rw (← c.self.view_is) (countable c.self.inside.fences.items c.self.inside.list.items c.self.invariant)
