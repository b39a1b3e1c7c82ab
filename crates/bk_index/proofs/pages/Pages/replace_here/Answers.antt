use Rattle.std.proofs.Common.{◌≡◌, ◌<◌, length, set, refl, ap, ◌∙◌, arith, rules}
use Rattle.std.specs.FinMap.{put}
use Rattle.bk_record.specs.Key.{key_cmp}
use Rattle.std.proofs.lemmas.Bool.{OnTrue_at, OnTrue_from}
use Rattle.bk_index.specs.Pages.{first_key, all_pairs}
use Rattle.bk_index.proofs.FencedPages.{fenced_over, length_set}
use Rattle.bk_index.proofs.HomePages.{read_page, find_there, put_there}
use Rattle.bk_index.proofs.Nearby.{home_here}
use Rattle.bk_index.proofs.pages.Pages.replace_here.Goals as goal

pub invariant_of-self-2 : goal.invariant_of-self-2
invariant_of-self-2 c =
    let pages = c.self.inside.list.items in
    let held = c.index_mut-page.result.now in
    let read = c.index_mut-page.ensures.value in
    let at = c.args.near.now.page in
    let within : at < length pages = search rules in
    let sized = c.self.invariant.sizes at held within in
    let same = ap length read in
    fenced_over c.self.inside.fences.items pages c.self.invariant at c.replace_at.new.self within
    (c.in_ok-moved.ensures.first ∙ ap first_key (read_page pages at within held read))
    (omega (arith, c.in_ok-moved.ensures.len, sized.0, same), omega (arith, c.in_ok-moved.ensures.len, sized.1, same))

pub returns-clause-condition : goal.returns-clause-condition
returns-clause-condition c =
    let at = c.args.near.now.page in
    let within : at < length c.self.inside.list.items = search rules in
    let sorted = rw (← c.self.view_is) at c.requires in
    let home = home_here c.args.key.now c.self.inside.list.items at within c.index_mut-page.result.now c.index_mut-page.ensures.value c.args.near.now.place sorted
    (c.in_ok-moved.ensures.here refl) in
    let found = find_there c.self.inside.list.items at within c.index_mut-page.result.now c.index_mut-page.ensures.value c.args.key.now home in
    rw (← c.self.view_is, found) c.in_ok-moved.ensures.condition

pub returns-clause-replaced : goal.returns-clause-replaced
returns-clause-replaced c =
    let at = c.args.near.now.page in
    let within : at < length c.self.inside.list.items = search rules in
    let sorted = rw (← c.self.view_is) at c.requires in
    let home = home_here c.args.key.now c.self.inside.list.items at within c.index_mut-page.result.now c.index_mut-page.ensures.value c.args.near.now.place sorted
    (c.in_ok-moved.ensures.here refl) in
    OnTrue_from c.in_ok-moved.moved (all_pairs (set c.self.inside.list.items at c.replace_at.new.self)
    ≡ put key_cmp c.args.key.now c.args.to (all_pairs c.args.self.now)) (λ moved. rw (← c.self.view_is)
    (put_there c.self.inside.list.items at within c.index_mut-page.result.now c.index_mut-page.ensures.value c.args.key.now home c.args.to c.replace_at.new.self
    (OnTrue_at moved c.in_ok-moved.ensures.replaced)))

pub returns-clause-len : goal.returns-clause-len
returns-clause-len c =
    let pages = c.self.inside.list.items in
    let at = c.args.near.now.page in
    let within : at < length pages = search rules in
    let page = read_page pages at within c.index_mut-page.result.now c.index_mut-page.ensures.value in
    rw (← c.self.view_is) (omega (arith, length_set pages at c.replace_at.new.self within, c.in_ok-moved.ensures.len, ap length page))
