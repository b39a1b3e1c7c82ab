use Rattle.std.proofs.Common.{◌<◌, ◌+◌, ◌-◌, ◌++◌, length, take, drop, ap, sym, ◌∙◌, arith}
use Rattle.std.specs.Bool.{◌==◌}
use Rattle.std.specs.List.{filter, All}
use Rattle.std.proofs.lemmas.List.Elements.{All-take, All-drop}
use Rattle.bk_record.specs.Key.{EntryKey}
use Rattle.bk_record.specs.Location.{Place}
use Rattle.bk_index.specs.Pages.{all_pairs}
use Rattle.bk_index.proofs.FencedPages.{few_of}
use Rattle.bk_index.proofs.LedgerPairs.{held_none, held_one, held_many, part_length, part_first, part_last, part_between}
use Rattle.bk_index.proofs.pages.Pages.walk_ledger.Goals as goal

-- the pages between the first and the last are not empty, as all pages
pub over-requires-in-len2-up : goal.over-requires-in-len2-up
over-requires-in-len2-up c =
    let from = c.pages_of-from.result.0 in
    let to = c.pages_of-from.result.1 in
    let pages = c.deref.result.now in
    let filled : All (λ page. 0 < length page) pages =
    rw c.deref.ensures.value (λ i d within. let sized = c.self.invariant.sizes i d within in omega (arith, sized.0)) in
    let held = take (to - from) (drop from pages) in
    All-take (λ page. 0 < length page) (length held - 1 - 1) (drop 1 held)
    (All-drop (λ page. 0 < length page) 1 held
    (All-take (λ page. 0 < length page) (to - from) (drop from pages) (All-drop (λ page. 0 < length page) from pages filled)))

pub returns-in-empty-clause-items : goal.returns-in-empty-clause-items
returns-in-empty-clause-items c =
    let pages = c.args.self.now in
    let from = c.pages_of-from.result.0 in
    let to = c.pages_of-from.result.1 in
    let holds = c.pages_of-from.ensures in
    let is = ap (λ ps. take (to - from) (drop from ps)) (c.deref.ensures.value ∙ c.self.view_is) in
    c.over.ensures ∙ (λ i. c.empty.ensures i ++ c.empty-in-empty.ensures i) ∙ sym (held_none pages c.args.ledger from to holds
    (omega (arith, part_length pages c.args.ledger from to holds _ is, c.in-empty.len_below, holds.order)))

pub returns-in-len1-clause-items : goal.returns-in-len1-clause-items
returns-in-len1-clause-items c =
    let pages = c.args.self.now in
    let from = c.pages_of-from.result.0 in
    let to = c.pages_of-from.result.1 in
    let holds = c.pages_of-from.ensures in
    let is = ap (λ ps. take (to - from) (drop from ps)) (c.deref.ensures.value ∙ c.self.view_is) in
    let long = part_length pages c.args.ledger from to holds _ is in
    let one = c.page-item.is ∙ part_first pages c.args.ledger from to holds _ is c.page-item.result (omega (arith, long, c.in-len1.len_at_least)) in
    let own = c.of_ledger.ensures ∙ ap (filter (λ e. e.0.ledger == c.args.ledger)) one in
    c.over-in-len1.ensures ∙ (λ i. own i ++ c.empty-in-len1.ensures i)
    ∙ sym (held_one pages c.args.ledger from to holds (omega (arith, long, c.in-len1.len_at_least, c.in-len1.len_below)))

pub returns-in-len2-up-clause-items : goal.returns-in-len2-up-clause-items
returns-in-len2-up-clause-items c =
    let pages = c.args.self.now in
    let from = c.pages_of-from.result.0 in
    let to = c.pages_of-from.result.1 in
    let holds = c.pages_of-from.ensures in
    let is = ap (λ ps. take (to - from) (drop from ps)) (c.deref.ensures.value ∙ c.self.view_is) in
    let long = part_length pages c.args.ledger from to holds _ is in
    let many : from + 1 < to = omega (arith, long, c.in-len2-up.len_at_least) in
    let of_ledger = filter (λ (e : EntryKey × Place). e.0.ledger == c.args.ledger) in
    let first = c.of_ledger-in-len2-up.ensures ∙ ap of_ledger (c.first-item.is
    ∙ part_first pages c.args.ledger from to holds _ is c.first-item.result (omega arith)) in
    let last = c.of_ledger-in-len2-up-2.ensures ∙ ap of_ledger (c.last-item.is
    ∙ part_last pages c.args.ledger from to holds _ is c.last-item.result (omega arith)) in
    let inner = ap all_pairs (part_between pages c.args.ledger from to holds _ is many) in
    c.over-in-len2-up.ensures ∙ (λ i. first i ++ (inner i ++ last i)) ∙ sym (held_many pages c.args.ledger from to holds many)

pub returns-in-empty-clause-bound : goal.returns-in-empty-clause-bound
returns-in-empty-clause-bound c =
    let few = rw c.self.view_is at (few_of c.self.inside.fences.items c.self.inside.list.items c.self.invariant (λ e. e.0.ledger == c.args.ledger)) in
    omega (arith, ap length (returns-in-empty-clause-items c), few)

pub returns-in-len1-clause-bound : goal.returns-in-len1-clause-bound
returns-in-len1-clause-bound c =
    let few = rw c.self.view_is at (few_of c.self.inside.fences.items c.self.inside.list.items c.self.invariant (λ e. e.0.ledger == c.args.ledger)) in
    omega (arith, ap length (returns-in-len1-clause-items c), few)

pub returns-in-len2-up-clause-bound : goal.returns-in-len2-up-clause-bound
returns-in-len2-up-clause-bound c =
    let few = rw c.self.view_is at (few_of c.self.inside.fences.items c.self.inside.list.items c.self.invariant (λ e. e.0.ledger == c.args.ledger)) in
    omega (arith, ap length (returns-in-len2-up-clause-items c), few)
