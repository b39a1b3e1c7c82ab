use Rattle.std.proofs.Common.{◌≡◌, ltb, Some, length, slice_get, refl, ap, rules, sym, ◌∙◌, arith}
use Rattle.std.proofs.lemmas.Bool.{eq-eqb, ltb-false, false≢true}
use Rattle.std.proofs.lemmas.Option.{slice_get_read, get_or_from_slice_get}
use Rattle.bk_record.specs.Key.{EntryKey}
use Rattle.bk_record.specs.Location.{Place}
use Rattle.std.proofs.lemmas.List.Sorted.{IsPartitionPoint-from_clause, IsPartitionedBy-ltb}
use Rattle.bk_index.proofs.LedgerPairs.{ledgers_rise}
use Rattle.bk_store.specs.FlushPlaces.{HeldPlaces}
use Rattle.bk_store.proofs.PlacedLedgers.{none_placed}
use Rattle.bk_store.proofs.places.FlushPlaces.has_ledger.Goals as goal

pub returns-in-Some : goal.returns-in-Some
returns-in-Some c = λ other.
    let pairs = c.self.inside.pairs.items in
    let low = IsPartitionPoint-from_clause (λ e. ltb e.0.ledger c.args.ledger) c.deref.result.now c.partition_point-first.result
    c.partition_point-first.ensures.partitioned
    (rw c.deref.ensures.value (IsPartitionedBy-ltb (λ e. e.0.ledger) pairs c.args.ledger (ledgers_rise pairs c.self.invariant))) (λ a r q k. search rules) in
    none_placed pairs c.args.self.now.places c.args.ledger c.partition_point-first.result c.self.invariant
    (ap (λ (h : HeldPlaces). h.places) c.self.view_is) (rw c.deref.ensures.value at low)
    (λ d within same.
    let looked = c.in-Some.ensures.lookup in
    let found : slice_get c.deref-2.result.now c.partition_point-first.result ≡ Some c.in-Some.field-0.now = slice_get_read _ _ _ _ refl looked.3.0 looked.1 in
    let here = get_or_from_slice_get pairs c.partition_point-first.result c.in-Some.field-0.now d (rw c.deref-2.ensures.value at found) in
    false≢true (sym other
    ∙ eq-eqb c.ledger.result c.args.ledger (c.ledger.ensures.value ∙ ap (λ (e : EntryKey × Place). e.0.ledger) (sym here) ∙ same)))

pub returns-in-None : goal.returns-in-None
returns-in-None c = λ other.
    let pairs = c.self.inside.pairs.items in
    let low = IsPartitionPoint-from_clause (λ e. ltb e.0.ledger c.args.ledger) c.deref.result.now c.partition_point-first.result
    c.partition_point-first.ensures.partitioned
    (rw c.deref.ensures.value (IsPartitionedBy-ltb (λ e. e.0.ledger) pairs c.args.ledger (ledgers_rise pairs c.self.invariant))) (λ a r q k. search rules) in
    none_placed pairs c.args.self.now.places c.args.ledger c.partition_point-first.result c.self.invariant
    (ap (λ (h : HeldPlaces). h.places) c.self.view_is) (rw c.deref.ensures.value at low)
    (λ d within same.
    let past = ltb-false c.partition_point-first.result (length c.deref-2.result.now) (sym c.in-None.ensures.lookup.0) in
    omega (arith, within, past, ap length c.deref-2.ensures.value))
