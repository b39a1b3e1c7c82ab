use Rattle.std.proofs.Common.{ltb, leb, drop, ap, rules}
use Rattle.std.proofs.lemmas.List.{take_rest}
use Rattle.std.proofs.lemmas.List.Sorted.{IsPartitionPoint-from_clause, IsPartitionedBy-ltb, IsPartitionedBy-leb, IsNonDecreasingBy-drop}
use Rattle.bk_index.proofs.LedgerPairs.{ledgers_rise, side_by_side}
use Rattle.bk_index.proofs.page.plain.Plain.of_ledger.Goals as goal

pub returns : goal.returns
returns c =
    let pairs = c.self.inside.pairs.items in
    let ledger = c.args.ledger in
    let from = c.partition_point-from.result in
    let rise = ledgers_rise pairs c.self.invariant in
    let rest = ap (λ ps. drop from ps) c.deref-2.ensures.value in
    let low = IsPartitionPoint-from_clause (λ e. ltb e.0.ledger ledger) c.deref.result.now from c.partition_point-from.ensures.partitioned
    (rw c.deref.ensures.value (IsPartitionedBy-ltb (λ e. e.0.ledger) pairs ledger rise)) (λ a r q k. search rules) in
    let high = IsPartitionPoint-from_clause (λ e. leb e.0.ledger ledger) _ c.partition_point.result c.partition_point.ensures.partitioned
    (rw (take_rest c.deref-2.result.now from, rest) (IsPartitionedBy-leb (λ e. e.0.ledger) (drop from pairs) ledger
    (IsNonDecreasingBy-drop (λ e. e.0.ledger) from pairs rise))) (λ a r q k. search rules) in
    rw (c.of_pairs.ensures, take_rest c.deref-2.result.now from, rest, ← c.self.view_is)
    (side_by_side ledger pairs from c.partition_point.result (rw c.deref.ensures.value at low) (rw (take_rest c.deref-2.result.now from, rest) at high))
