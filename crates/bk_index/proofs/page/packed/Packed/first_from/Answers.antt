use Rattle.std.proofs.Common.{Some, option_map, slice_get, sym, ap, ◌∙◌, rules}
use Rattle.std.specs.Ordering.{is_lt}
use Rattle.std.proofs.lemmas.List.Sorted.{IsPartitionPoint-from_clause}
use Rattle.std.proofs.lemmas.Option.{slice_get_past, slice_get-get_or}
use Rattle.bk_record.specs.Key.{EntryKey, key_cmp}
use Rattle.bk_index.specs.Packed.{cell_pair, cell_pairs}
use Rattle.bk_index.proofs.OrderedPages.{cut_rest}
use Rattle.bk_index.proofs.CutPages.{head_of_drop, is_downward_before, pairs_parted}
use Rattle.bk_index.proofs.PackedPairs.{cells_at}
use Rattle.bk_index.proofs.PackedSearch.{parted_map, cut_map}
use Rattle.bk_index.proofs.page.packed.Packed.first_from.Goals as goal

pub returns-in_err-offset : goal.returns-in_err-offset
returns-in_err-offset c =
    let page = c.self.inside in
    let cells = page.cells.items in
    let pairs = cell_pairs page.ledger page.base cells in
    let f = cell_pair page.ledger page.base in
    let q : EntryKey = record { ledger = c.args.ledger; entry = c.args.entry } in
    let n = c.partition_point-place.result in
    let cut = IsPartitionPoint-from_clause (λ cell. is_lt (key_cmp (f cell).0 q)) c.deref.result.now n c.partition_point-place.ensures.partitioned
    (rw c.deref.ensures.value
    (parted_map f (λ e. is_lt (key_cmp e.0 q)) cells (pairs_parted (λ k. is_lt (key_cmp k q)) (is_downward_before q) pairs c.self.invariant.2)))
    (λ a r q k. search rules) in
    let cut_pairs = cut_map f (λ e. is_lt (key_cmp e.0 q)) cells n (rw c.deref.ensures.value at c.partition_point-place.ensures.bound)
    (rw c.deref.ensures.value at cut) in
    let rest = cut_rest (λ e. is_lt (key_cmp e.0 q)) pairs n cut_pairs in
    let past = slice_get_past c.deref-2.result.now n c.in_err-offset.ensures.lookup.3 in
    rw (c.from_residual.ensures, ← c.self.view_is)
    (sym (ap (option_map (λ e. e.0)) (ap (λ es. slice_get es 0) rest ∙ head_of_drop pairs n ∙ cells_at page.ledger page.base cells n
    ∙ ap (option_map f) (ap (λ es. slice_get es n) (sym c.deref-2.ensures.value) ∙ past))))

pub returns : goal.returns
returns c =
    let page = c.self.inside in
    let cells = page.cells.items in
    let pairs = cell_pairs page.ledger page.base cells in
    let f = cell_pair page.ledger page.base in
    let q : EntryKey = record { ledger = c.args.ledger; entry = c.args.entry } in
    let n = c.partition_point-place.result in
    let cut = IsPartitionPoint-from_clause (λ cell. is_lt (key_cmp (f cell).0 q)) c.deref.result.now n c.partition_point-place.ensures.partitioned
    (rw c.deref.ensures.value
    (parted_map f (λ e. is_lt (key_cmp e.0 q)) cells (pairs_parted (λ k. is_lt (key_cmp k q)) (is_downward_before q) pairs c.self.invariant.2)))
    (λ a r q k. search rules) in
    let cut_pairs = cut_map f (λ e. is_lt (key_cmp e.0 q)) cells n (rw c.deref.ensures.value at c.partition_point-place.ensures.bound)
    (rw c.deref.ensures.value at cut) in
    let rest = cut_rest (λ e. is_lt (key_cmp e.0 q)) pairs n cut_pairs in
    let looked = c.in_ok-offset.ensures.lookup in
    let here = slice_get-get_or c.deref-2.result.now n c.in_ok-offset.field-0.now looked.3.0 ∙ ap (λ e. Some e) (sym looked.1) in
    rw (c.key_at.ensures.value, ← c.self.view_is)
    (sym (ap (option_map (λ e. e.0)) (ap (λ es. slice_get es 0) rest ∙ head_of_drop pairs n ∙ cells_at page.ledger page.base cells n
    ∙ ap (option_map f) (ap (λ es. slice_get es n) (sym c.deref-2.ensures.value) ∙ here))))
