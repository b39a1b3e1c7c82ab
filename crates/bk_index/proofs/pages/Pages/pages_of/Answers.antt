use Rattle.std.proofs.Common.{ltb, leb, length, ap, arith, rules}
use Rattle.std.proofs.lemmas.List.Sorted.{IsPartitionPoint-from_clause}
use Rattle.bk_index.proofs.FencedPages.{few_fences}
use Rattle.bk_index.proofs.RisingFences.{fences_parted}
use Rattle.bk_index.proofs.LedgerFences.{is_downward_below, is_downward_upto, holds_ledger}
use Rattle.bk_index.proofs.pages.Pages.pages_of.Goals as goal

pub returns : goal.returns
returns c =
    let pages = c.self.inside.list.items in
    let fences = c.self.inside.fences.items in
    let are = c.self.invariant in
    let sorted = rw (← c.self.view_is) at c.requires in
    let ledger = c.args.ledger in
    let smaller = IsPartitionPoint-from_clause (λ f. ltb f.ledger ledger) c.deref.result.now c.partition_point-before.result
    c.partition_point-before.ensures.partitioned (rw c.deref.ensures.value (fences_parted fences pages are sorted _ (is_downward_below ledger)))
    (λ a r q k. search rules) in
    let upto = IsPartitionPoint-from_clause (λ f. leb f.ledger ledger) c.deref-2.result.now c.partition_point-to.result c.partition_point-to.ensures.partitioned
    (rw c.deref-2.ensures.value (fences_parted fences pages are sorted _ (is_downward_upto ledger))) (λ a r q k. search rules) in
    rw (c.saturating_sub.ensures, ← c.self.view_is)
    (holds_ledger fences pages are sorted ledger c.partition_point-before.result c.partition_point-to.result
    (omega (arith, c.partition_point-before.ensures.bound, ap length c.deref.ensures.value, few_fences fences pages are))
    (omega (arith, c.partition_point-to.ensures.bound, ap length c.deref-2.ensures.value, few_fences fences pages are))
    (rw c.deref.ensures.value at smaller) (rw c.deref-2.ensures.value at upto))
