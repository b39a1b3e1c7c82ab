use Rattle.std.proofs.Common.{length, ap, arith, rules}
use Rattle.std.specs.Ordering.{is_le}
use Rattle.std.proofs.lemmas.List.Sorted.{IsPartitionPoint-from_clause}
use Rattle.bk_record.specs.Key.{key_cmp}
use Rattle.bk_index.proofs.FencedPages.{few_fences}
use Rattle.bk_index.proofs.RisingFences.{fences_parted, home_of, is_downward_key}
use Rattle.bk_index.proofs.pages.Pages.home.Goals as goal

pub returns-clause-home : goal.returns-clause-home
returns-clause-home c =
    let pages = c.self.inside.list.items in
    let fences = c.self.inside.fences.items in
    let sorted = rw (← c.self.view_is) at c.requires in
    let key = c.args.key.now in
    let point = IsPartitionPoint-from_clause (λ f. is_le (key_cmp f key)) c.deref.result.now c.partition_point.result c.partition_point.ensures.partitioned
    (rw c.deref.ensures.value (fences_parted fences pages c.self.invariant sorted _ (is_downward_key key))) (λ a r q k. search rules) in
    rw (c.saturating_sub.ensures, ← c.self.view_is)
    (home_of fences pages c.self.invariant sorted key c.partition_point.result
    (omega (arith, c.partition_point.ensures.bound, ap length c.deref.ensures.value, few_fences fences pages c.self.invariant))
    (rw c.deref.ensures.value at point))
