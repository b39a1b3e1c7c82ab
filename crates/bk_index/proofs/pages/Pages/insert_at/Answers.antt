use Rattle.std.proofs.Common.{◌<◌, length, sym, ap, ◌∙◌, arith}
use mathlib.Core.Bool.{false≢true}
use Rattle.bk_index.specs.Pages.{first_key}
use Rattle.bk_index.proofs.PagePairs.{find_absent}
use Rattle.bk_index.proofs.FencedPages.{fenced_over, countable}
use Rattle.bk_index.proofs.HomePages.{read_page, sorted_held, find_there, put_there}
use Rattle.bk_index.proofs.pages.Pages.insert_at.Goals as goal

-- the page has the key, so its pair is overwritten
pub invariant_of-self : goal.invariant_of-self
invariant_of-self c =
    let pages = c.self.inside.list.items in
    let held = c.index_mut-page.result.now in
    let read = c.index_mut-page.ensures.value in
    let at = c.args.at in
    let within : at < length pages = omega (arith, ap length c.self.view_is, c.requires.within) in
    let sized = c.self.invariant.sizes at held within in
    let same = ap length read in
    fenced_over c.self.inside.fences.items pages c.self.invariant at c.replace.new.self within
    (c.replace.ensures.first ∙ ap first_key (read_page pages at within held read))
    (omega (arith, c.replace.ensures.len, sized.0, same), omega (arith, c.replace.ensures.len, sized.1, same))

pub returns-in-Ok-clause-ok : goal.returns-in-Ok-clause-ok
returns-in-Ok-clause-ok c =
    let pages = c.self.inside.list.items in
    let at = c.args.at in
    let within : at < length pages = omega (arith, ap length c.self.view_is, c.requires.within) in
    let home = rw (← c.self.view_is) at c.requires.home in
    rw (← c.self.view_is)
    (put_there pages at within c.index_mut-page.result.now c.index_mut-page.ensures.value c.args.key home c.args.location c.replace.new.self
    c.replace.ensures.replaced)

pub returns-in-Ok-clause-before : goal.returns-in-Ok-clause-before
returns-in-Ok-clause-before c =
    let at = c.args.at in
    let within : at < length c.self.inside.list.items = omega (arith, ap length c.self.view_is, c.requires.within) in
    let home = rw (← c.self.view_is) at c.requires.home in
    rw (← c.self.view_is)
    (sym (find_there c.self.inside.list.items at within c.index_mut-page.result.now c.index_mut-page.ensures.value c.args.key home ∙ c.replace.ensures.before))

-- the key is new
pub returns-in_ok-add-in-Err-clause-before : goal.returns-in_ok-add-in-Err-clause-before
returns-in_ok-add-in-Err-clause-before c =
    let pages = c.self.inside.list.items in
    let held = c.index_mut-page.result.now in
    let read = c.index_mut-page.ensures.value in
    let at = c.args.at in
    let within : at < length pages = omega (arith, ap length c.self.view_is, c.requires.within) in
    let home = rw (← c.self.view_is) at c.requires.home in
    let sorted = rw (← c.self.view_is) at c.requires.sorted in
    rw (← c.self.view_is)
    (sym (find_there pages at within held read c.args.key home
    ∙ find_absent held (sorted_held pages at within held read sorted) c.args.key c.in-Err.place c.in-Err.ensures.absent))

pub returns-in_err-add-in-Err-clause-held : goal.returns-in_err-add-in-Err-clause-held
returns-in_err-add-in-Err-clause-held c is_held =
    let pages = c.self.inside.list.items in
    let held = c.index_mut-page.result.now in
    let read = c.index_mut-page.ensures.value in
    let at = c.args.at in
    let within : at < length pages = omega (arith, ap length c.self.view_is, c.requires.within) in
    let home = rw (← c.self.view_is) at c.requires.home in
    let sorted = rw (← c.self.view_is) at c.requires.sorted in
    let none = find_there pages at within held read c.args.key home
    ∙ find_absent held (sorted_held pages at within held read sorted) c.args.key c.in-Err.place c.in-Err.ensures.absent in
    absurd (false≢true (rw (← c.self.view_is, none) at is_held))

pub returns-in-Ok-clause-bound : goal.returns-in-Ok-clause-bound
returns-in-Ok-clause-bound c = countable _ _ (invariant_of-self c)
