use Rattle.std.proofs.Common.{◌-◌, ◌≤◌, List, leb, length, ap, sym, ◌∙◌, arith, rules, slice_get, option_map}
use Rattle.std.proofs.lemmas.List.Sorted.{IsPartitionPoint-from_clause}
use Rattle.bk_record.specs.Key.{EntryKey}
use Rattle.bk_record.specs.Location.{Place}
use Rattle.bk_index.proofs.FencedPages.{few_fences}
use Rattle.bk_index.proofs.RisingFences.{fences_parted}
use Rattle.bk_index.proofs.LedgerFences.{is_downward_upto}
use Rattle.bk_index.proofs.CutPages.{front_of_all, front_in_page}
use Rattle.bk_index.proofs.pages.Pages.last_upto.Goals as goal

pub returns-in_err-last : goal.returns-in_err-last
returns-in_err-last c =
    let pages = c.self.inside.list.items in
    let fences = c.self.inside.fences.items in
    let are = c.self.invariant in
    let sorted = rw (← c.self.view_is) at c.requires in
    let n = c.partition_point-upto.result in
    let cut = IsPartitionPoint-from_clause (λ f. leb f.ledger c.args.ledger) c.deref.result.now n c.partition_point-upto.ensures.partitioned
    (rw c.deref.ensures.value (fences_parted fences pages are sorted _ (is_downward_upto c.args.ledger))) (λ a r q k. search rules) in
    let bound : n ≤ length pages = omega (arith, c.partition_point-upto.ensures.bound, ap length c.deref.ensures.value, few_fences fences pages are) in
    let last = rw c.deref-2.ensures.value at c.in_err-last.ensures.value in
    let none = front_of_all fences pages are sorted (λ k. leb k.ledger c.args.ledger) (is_downward_upto c.args.ledger) n bound
    (rw c.deref.ensures.value at cut) last in
    rw (c.from_residual.ensures, ← c.self.view_is)
    (sym (ap (λ (es : List (EntryKey × Place)). option_map (λ e. e.0) (slice_get es (length es - 1))) none))

pub returns : goal.returns
returns c =
    let pages = c.self.inside.list.items in
    let fences = c.self.inside.fences.items in
    let are = c.self.invariant in
    let sorted = rw (← c.self.view_is) at c.requires in
    let n = c.partition_point-upto.result in
    let cut = IsPartitionPoint-from_clause (λ f. leb f.ledger c.args.ledger) c.deref.result.now n c.partition_point-upto.ensures.partitioned
    (rw c.deref.ensures.value (fences_parted fences pages are sorted _ (is_downward_upto c.args.ledger))) (λ a r q k. search rules) in
    let bound : n ≤ length pages = omega (arith, c.partition_point-upto.ensures.bound, ap length c.deref.ensures.value, few_fences fences pages are) in
    let last = rw c.deref-2.ensures.value at c.in_ok-last.ensures.value in
    rw (← c.self.view_is) (c.last_upto.ensures ∙ ap (option_map (λ e. e.0))
    (front_in_page fences pages are sorted (λ k. leb k.ledger c.args.ledger) (is_downward_upto c.args.ledger) n bound (rw c.deref.ensures.value at cut)
    c.in_ok-last.field-0.now last))
