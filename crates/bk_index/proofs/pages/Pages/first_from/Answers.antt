use Rattle.std.proofs.Common.{◌≤◌, length, ap, sym, ◌∙◌, arith, rules, slice_get}
use Rattle.std.specs.Ordering.{is_lt}
use Rattle.std.proofs.lemmas.List.Sorted.{IsPartitionPoint-from_clause}
use Rattle.bk_record.specs.Key.{EntryKey, key_cmp}
use Rattle.bk_index.proofs.FencedPages.{few_fences}
use Rattle.bk_index.proofs.RisingFences.{fences_parted}
use Rattle.bk_index.proofs.CutPages.{copied_at, within_of, is_downward_before, rest_of_all, rest_in_page, rest_behind_page}
use Rattle.bk_index.proofs.pages.Pages.first_from.Goals as goal
use Rattle.bk_index.proofs.pages.Pages.first_from.Goals.{in-Some+in_default-first_from, in_default}

pub returns-in-Some-first_from : goal.returns-in-Some-first_from
returns-in-Some-first_from c =
    let pages = c.self.inside.list.items in
    let fences = c.self.inside.fences.items in
    let are = c.self.invariant in
    let sorted = rw (← c.self.view_is) at c.requires in
    let q : EntryKey = record { ledger = c.args.ledger; entry = c.args.entry } in
    let n = c.partition_point-upto.result in
    let cut = IsPartitionPoint-from_clause (λ f. is_lt (key_cmp f q)) c.deref.result.now n c.partition_point-upto.ensures.partitioned
    (rw c.deref.ensures.value (fences_parted fences pages are sorted _ (is_downward_before q))) (λ a r q k. search rules) in
    let bound : n ≤ length pages = omega (arith, c.partition_point-upto.ensures.bound, ap length c.deref.ensures.value, few_fences fences pages are) in
    let last = rw c.deref-2.ensures.value at c.in-Some.ensures.value in
    rw (← c.self.view_is) (rest_in_page fences pages are sorted (λ k. is_lt (key_cmp k q)) (is_downward_before q) n bound (rw c.deref.ensures.value at cut)
    c.in-Some.page.now last c.in-Some-first_from.key c.in-Some-first_from.ensures)

pub returns : goal.returns
returns c =
    let pages = c.self.inside.list.items in
    let fences = c.self.inside.fences.items in
    let are = c.self.invariant in
    let sorted = rw (← c.self.view_is) at c.requires in
    let q : EntryKey = record { ledger = c.args.ledger; entry = c.args.entry } in
    let n = c.partition_point-upto.result in
    let cut = IsPartitionPoint-from_clause (λ f. is_lt (key_cmp f q)) c.deref.result.now n c.partition_point-upto.ensures.partitioned
    (rw c.deref.ensures.value (fences_parted fences pages are sorted _ (is_downward_before q))) (λ a r q k. search rules) in
    let bound : n ≤ length pages = omega (arith, c.partition_point-upto.ensures.bound, ap length c.deref.ensures.value, few_fences fences pages are) in
    let looked = c.get.ensures.lookup in
    let fence = c.copied.ensures ∙ copied_at c.get.result c.deref-3.result.now n (within_of _ c.get.result c.deref-3.result.now n looked.3) looked.1
    ∙ ap (λ fs. slice_get fs n) c.deref-3.ensures.value in
    rw (← c.self.view_is) (fence ∙ sym (elim c.match-last.branch [
      | in-Some+in_default-first_from w ↦
          let last = rw c.deref-2.ensures.value at w.in-Some.ensures.value in
          rest_behind_page fences pages are sorted (λ k. is_lt (key_cmp k q)) (is_downward_before q) n bound (rw c.deref.ensures.value at cut)
          w.in-Some.page.now last w.in_default-first_from.ensures
      | in_default w ↦
          let last = rw c.deref-2.ensures.value at w.in_default.ensures.value in
          rest_of_all fences pages are sorted (λ k. is_lt (key_cmp k q)) (is_downward_before q) n bound (rw c.deref.ensures.value at cut) last
    ]))
