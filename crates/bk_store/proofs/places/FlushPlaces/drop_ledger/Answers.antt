use Rattle.std.proofs.Common.{not, sym, ap, ◌∙◌, rules}
use Rattle.std.specs.Bool.{◌==◌}
use Rattle.std.proofs.lemmas.Fn.{filter_same}
use Rattle.bk_record.specs.Key.{key_cmp}
use Rattle.bk_record.specs.Keyed.{without_ledger}
use Rattle.bk_record.proofs.Keys.{key_cmp_total, key_cmp_antisymmetric}
use Rattle.bk_record.proofs.SortedMaps.{is_sorted-filter, retain_keys-sorted}
use Rattle.bk_store.specs.FlushPlaces.{HeldPlaces}
use Rattle.bk_store.proofs.places.FlushPlaces.drop_ledger.Goals as goal

-- `retain` leaves the pairs of other ledgers
pub invariant_of-self : goal.invariant_of-self
invariant_of-self c =
    let kept = filter_same _ (λ e. not (e.0.ledger == c.args.ledger)) _ (λ x b f' r. search rules) _ _ c.retain.ensures.filtered in
    rw kept (is_sorted-filter key_cmp _ c.self.invariant (λ key. not (key.ledger == c.args.ledger)))

pub returns-then-has_ledger : goal.returns-then-has_ledger
returns-then-has_ledger c =
    let kept = filter_same _ (λ e. not (e.0.ledger == c.args.ledger)) _ (λ x b f' r. search rules) _ _ c.retain.ensures.filtered in
    rw kept (sym (retain_keys-sorted key_cmp _ c.self.invariant key_cmp_total key_cmp_antisymmetric _))
    ∙ ap (λ (p : HeldPlaces). without_ledger p.places c.args.ledger) c.self.view_is
