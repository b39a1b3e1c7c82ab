use Rattle.std.proofs.Common.{Some, option_map, slice_get, sym, ap, ◌∙◌, rules}
use Rattle.std.specs.Ordering.{is_lt}
use Rattle.std.proofs.lemmas.List.Sorted.{IsPartitionPoint-from_clause}
use Rattle.std.proofs.lemmas.Option.{slice_get_past, slice_get-get_or}
use Rattle.bk_record.specs.Key.{EntryKey, key_cmp}
use Rattle.bk_index.proofs.OrderedPages.{cut_rest}
use Rattle.bk_index.proofs.CutPages.{head_of_drop, is_downward_before, pairs_parted}
use Rattle.bk_index.proofs.page.plain.Plain.first_from.Goals as goal

pub returns-in_err-key : goal.returns-in_err-key
returns-in_err-key c =
    let pairs = c.self.inside.pairs.items in
    let q : EntryKey = record { ledger = c.args.ledger; entry = c.args.entry } in
    let n = c.partition_point-place.result in
    let cut = IsPartitionPoint-from_clause (λ e. is_lt (key_cmp e.0 q)) c.deref.result.now n c.partition_point-place.ensures.partitioned
    (rw c.deref.ensures.value (pairs_parted (λ k. is_lt (key_cmp k q)) (is_downward_before q) pairs c.self.invariant)) (λ a r q k. search rules) in
    let rest = cut_rest (λ e. is_lt (key_cmp e.0 q)) pairs n (rw c.deref.ensures.value at cut) in
    let past = slice_get_past c.deref-2.result.now n c.in_err-key.ensures.lookup.3 in
    rw (c.from_residual.ensures, ← c.self.view_is)
    (sym (ap (option_map (λ e. e.0)) (ap (λ es. slice_get es 0) rest ∙ head_of_drop pairs n ∙ ap (λ es. slice_get es n) (sym c.deref-2.ensures.value) ∙ past)))

pub returns : goal.returns
returns c =
    let pairs = c.self.inside.pairs.items in
    let q : EntryKey = record { ledger = c.args.ledger; entry = c.args.entry } in
    let n = c.partition_point-place.result in
    let cut = IsPartitionPoint-from_clause (λ e. is_lt (key_cmp e.0 q)) c.deref.result.now n c.partition_point-place.ensures.partitioned
    (rw c.deref.ensures.value (pairs_parted (λ k. is_lt (key_cmp k q)) (is_downward_before q) pairs c.self.invariant)) (λ a r q k. search rules) in
    let rest = cut_rest (λ e. is_lt (key_cmp e.0 q)) pairs n (rw c.deref.ensures.value at cut) in
    let looked = c.in_ok-key.ensures.lookup in
    let here = slice_get-get_or c.deref-2.result.now n c.in_ok-key.field-0.now looked.3.0 in
    rw (← c.self.view_is)
    (sym (ap (option_map (λ e. e.0)) (ap (λ es. slice_get es 0) rest ∙ head_of_drop pairs n ∙ ap (λ es. slice_get es n) (sym c.deref-2.ensures.value) ∙ here)
    ∙ ap (λ e. option_map (λ e. e.0) e) (ap (λ e. Some e) (sym looked.1))))
