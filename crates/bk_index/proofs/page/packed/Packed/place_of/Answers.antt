use Rattle.std.proofs.Common.{◌≡◌, ◌-◌, false, List, length, slice_get, refl, sym, ap, ◌∙◌, rules}
use Rattle.std.specs.declared.cmp.Ordering.TheVariants.{Less}
use Rattle.std.specs.Ordering.{is_lt}
use Rattle.std.proofs.lemmas.List.Sorted.{answers_always}
use Rattle.bk_record.specs.Key.{key_cmp}
use Rattle.bk_index.specs.Packed.{cell_pairs}
use Rattle.bk_index.proofs.PagePairs.{find_absent, searched_none}
use Rattle.bk_index.proofs.PackedPairs.{gap_before}
use Rattle.bk_index.proofs.PackedPlaces.{cells_searched, gap_behind, before_base}
use Rattle.bk_index.proofs.page.packed.Packed.place_of.Goals as goal

-- the key is after the last one
pub returns-then-lt-clause-absent : goal.returns-then-lt-clause-absent
returns-then-lt-clause-absent c =
    let page = c.self.inside in
    let last = sym (c.in-Some-last.ensures.value ∙ ap (λ (es : List _). slice_get es (length es - 1)) c.deref.ensures.value) in
    let less : key_cmp c.key_at.result c.args.key.now ≡ Less = search rules in
    rw (← c.self.view_is, c.len.ensures, c.self.inside.cells.ok.0)
    (gap_behind page.ledger page.base page.cells.items c.self.invariant.2 c.args.key.now c.in-Some-last.field-0.now last (rw c.key_at.ensures.value at less))

pub returns-then-lt-clause-none : goal.returns-then-lt-clause-none
returns-then-lt-clause-none c =
    let page = c.self.inside in
    let last = sym (c.in-Some-last.ensures.value ∙ ap (λ (es : List _). slice_get es (length es - 1)) c.deref.ensures.value) in
    let less : key_cmp c.key_at.result c.args.key.now ≡ Less = search rules in
    rw (← c.self.view_is) (find_absent _ c.self.invariant.2 c.args.key.now _
    (gap_behind page.ledger page.base page.cells.items c.self.invariant.2 c.args.key.now c.in-Some-last.field-0.now last (rw c.key_at.ensures.value at less)))

-- it is before the first one
pub returns-in_default-clause-absent : goal.returns-in_default-clause-absent
returns-in_default-clause-absent c =
    let page = c.self.inside in
    let after : is_lt (key_cmp c.key_at.result c.args.key.now) ≡ false = search rules in
    let small = rw c.key_at.ensures.value at c.key_at.ensures.near in
    rw (← c.self.view_is) (gap_before page.ledger page.base page.cells.items c.args.key.now
    (before_base page.ledger page.base c.args.key.now c.in-Some-last.field-0.now.0 small (c.in_default.ensures.outside refl) (rw c.key_at.ensures.value at after)))

pub returns-in_default-clause-none : goal.returns-in_default-clause-none
returns-in_default-clause-none c =
    let page = c.self.inside in
    let after : is_lt (key_cmp c.key_at.result c.args.key.now) ≡ false = search rules in
    let small = rw c.key_at.ensures.value at c.key_at.ensures.near in
    rw (← c.self.view_is) (find_absent _ c.self.invariant.2 c.args.key.now _ (gap_before page.ledger page.base page.cells.items c.args.key.now
    (before_base page.ledger page.base c.args.key.now c.in-Some-last.field-0.now.0 small (c.in_default.ensures.outside refl) (rw c.key_at.ensures.value at after))))

-- the search by offset
pub returns-clause-found : goal.returns-clause-found
returns-clause-found c =
    let page = c.self.inside in
    let facts = c.binary_search_by_key.ensures in
    let by_key = facts.position (λ cell. cell.0) (answers_always _ _ _ (λ f a r g called. search rules)) in
    let is = cells_searched page.ledger page.base page.cells.items c.self.invariant.2 c.args.key.now c.in-Some.offset c.in-Some.ensures.fits _
    (rw c.deref-2.ensures.value at facts.bound) (rw c.deref-2.ensures.value at by_key) in
    rw (← c.self.view_is) is.found

pub returns-clause-absent : goal.returns-clause-absent
returns-clause-absent c =
    let page = c.self.inside in
    let facts = c.binary_search_by_key.ensures in
    let by_key = facts.position (λ cell. cell.0) (answers_always _ _ _ (λ f a r g called. search rules)) in
    let is = cells_searched page.ledger page.base page.cells.items c.self.invariant.2 c.args.key.now c.in-Some.offset c.in-Some.ensures.fits _
    (rw c.deref-2.ensures.value at facts.bound) (rw c.deref-2.ensures.value at by_key) in
    rw (← c.self.view_is) is.absent

pub returns-clause-none : goal.returns-clause-none
returns-clause-none c =
    let page = c.self.inside in
    let facts = c.binary_search_by_key.ensures in
    let by_key = facts.position (λ cell. cell.0) (answers_always _ _ _ (λ f a r g called. search rules)) in
    let is = cells_searched page.ledger page.base page.cells.items c.self.invariant.2 c.args.key.now c.in-Some.offset c.in-Some.ensures.fits _
    (rw c.deref-2.ensures.value at facts.bound) (rw c.deref-2.ensures.value at by_key) in
    rw (← c.self.view_is) (searched_none (cell_pairs page.ledger page.base page.cells.items) c.self.invariant.2 c.args.key.now _ is.absent)
