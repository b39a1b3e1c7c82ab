use Rattle.std.proofs.Common.{◌≡◌, ◌<◌, length, set, ap, ◌∙◌, arith}
use Rattle.std.specs.FinMap.{put}
use Rattle.bk_record.specs.Key.{key_cmp}
use Rattle.std.proofs.lemmas.Bool.{OnTrue_at, OnTrue_from}
use Rattle.bk_index.specs.Pages.{first_key, all_pairs}
use Rattle.bk_index.proofs.FencedPages.{fenced_over, length_set}
use Rattle.bk_index.proofs.HomePages.{read_page, find_there, put_there}
use Rattle.bk_index.proofs.pages.Pages.replace_found.Goals as goal

pub invariant_of-self : goal.invariant_of-self
invariant_of-self c =
    let pages = c.self.inside.list.items in
    let held = c.index_mut-page.result.now in
    let read = c.index_mut-page.ensures.value in
    let at = c.home-at.result in
    let within : at < length pages = omega arith in
    let sized = c.self.invariant.sizes at held within in
    let same = ap length read in
    fenced_over c.self.inside.fences.items pages c.self.invariant at c.replace_if.new.self within
    (c.replace_if.ensures.first ∙ ap first_key (read_page pages at within held read))
    (omega (arith, c.replace_if.ensures.len, sized.0, same), omega (arith, c.replace_if.ensures.len, sized.1, same))

pub returns-clause-condition : goal.returns-clause-condition
returns-clause-condition c =
    let at = c.home-at.result in
    let within : at < length c.self.inside.list.items = omega arith in
    let home = rw (← c.self.view_is) at c.home-at.ensures.home in
    let found = find_there c.self.inside.list.items at within c.index_mut-page.result.now c.index_mut-page.ensures.value c.args.key.now home in
    rw (← c.self.view_is, found) c.replace_if.ensures.condition

pub returns-clause-replaced : goal.returns-clause-replaced
returns-clause-replaced c =
    let at = c.home-at.result in
    let within : at < length c.self.inside.list.items = omega arith in
    let home = rw (← c.self.view_is) at c.home-at.ensures.home in
    OnTrue_from c.replace_if.result (all_pairs (set c.self.inside.list.items at c.replace_if.new.self)
    ≡ put key_cmp c.args.key.now c.args.to (all_pairs c.args.self.now)) (λ moved. rw (← c.self.view_is)
    (put_there c.self.inside.list.items at within c.index_mut-page.result.now c.index_mut-page.ensures.value c.args.key.now home c.args.to c.replace_if.new.self
    (OnTrue_at moved c.replace_if.ensures.replaced)))

pub returns-clause-len : goal.returns-clause-len
returns-clause-len c =
    let pages = c.self.inside.list.items in
    let at = c.home-at.result in
    let within : at < length pages = omega arith in
    let page = read_page pages at within c.index_mut-page.result.now c.index_mut-page.ensures.value in
    rw (← c.self.view_is) (omega (arith, length_set pages at c.replace_if.new.self within, c.replace_if.ensures.len, ap length page))
