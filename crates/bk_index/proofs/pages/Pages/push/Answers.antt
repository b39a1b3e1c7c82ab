use Rattle.std.proofs.Common.{◌<◌, length, ap, ◌∙◌, arith}
use Rattle.std.proofs.lemmas.Bool.{OnTrue_at}
use Rattle.bk_index.specs.Pages.{first_key}
use Rattle.bk_index.proofs.FencedPages.{fenced_over, countable}
use Rattle.bk_index.proofs.HomePages.{read_page, find_there, put_there}
use Rattle.bk_index.proofs.PagePairs.{on_err}
use Rattle.bk_index.proofs.pages.Pages.push.Goals as goal

pub invariant_of-self-then-branch : goal.invariant_of-self-then-branch
invariant_of-self-then-branch c =
    let pages = c.self.inside.list.items in
    let held = c.index_mut-page.result.now in
    let read = c.index_mut-page.ensures.value in
    let within : c.args.at < length pages = omega (arith, ap length c.self.view_is, c.requires.within) in
    let sized = c.self.invariant.sizes c.args.at held within in
    let same = ap length read in
    let first = OnTrue_at c.if-branch.true c.in_ok-push.ensures.first in
    let len = OnTrue_at c.if-branch.true c.in_ok-push.ensures.len in
    let room = OnTrue_at c.if-branch.true c.in_ok-push.ensures.room in
    fenced_over c.self.inside.fences.items pages c.self.invariant c.args.at c.push.new.self within
    (first ∙ ap first_key (read_page pages c.args.at within held read)) (omega (arith, len, sized.0, same), omega (arith, len, room))

pub returns-then-branch-clause-pushed : goal.returns-then-branch-clause-pushed
returns-then-branch-clause-pushed c =
    let pages = c.self.inside.list.items in
    let within : c.args.at < length pages = omega (arith, ap length c.self.view_is, c.requires.within) in
    let home = rw (← c.self.view_is) at c.requires.home in
    rw (← c.self.view_is)
    (put_there pages c.args.at within c.index_mut-page.result.now c.index_mut-page.ensures.value c.args.key.now home c.args.location c.push.new.self
    (OnTrue_at c.if-branch.true c.in_ok-push.ensures.pushed))

pub returns-then-branch-clause-bound : goal.returns-then-branch-clause-bound
returns-then-branch-clause-bound c = countable _ _ (invariant_of-self-then-branch c)

pub returns-then-branch-clause-absent : goal.returns-then-branch-clause-absent
returns-then-branch-clause-absent c =
    let pages = c.self.inside.list.items in
    let within : c.args.at < length pages = omega (arith, ap length c.self.view_is, c.requires.within) in
    let home = rw (← c.self.view_is) at c.requires.home in
    rw (← c.self.view_is)
    (find_there pages c.args.at within c.index_mut-page.result.now c.index_mut-page.ensures.value c.args.key.now home
    ∙ OnTrue_at c.if-branch.true c.in_ok-push.ensures.absent)

pub returns-in_err-push-clause-failed : goal.returns-in_err-push-clause-failed
returns-in_err-push-clause-failed c =
    let pages = c.self.inside.list.items in
    let within : c.args.at < length pages = omega (arith, ap length c.self.view_is, c.requires.within) in
    let home = rw (← c.self.view_is) at c.requires.home in
    on_err c.from_residual.result (rw (← c.self.view_is)
    (find_there pages c.args.at within c.index_mut-page.result.now c.index_mut-page.ensures.value c.args.key.now home ∙ c.in_err-push.ensures.failed))
