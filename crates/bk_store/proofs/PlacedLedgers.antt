-- Places in the order of their keys, of which none is a ledger's.
use Rattle.std.proofs.Common.{◌≡◌, ◌≢◌, ℕ, zero, suc, ◌<◌, true, false, ltb, not, ◌==◌, List, [], ◌∷◌, length, get_or, IsTrue, refl, sym, ap, ◌∙◌}
use Rattle.std.proofs.Common.{arith}
use Rattle.std.specs.List.{filter}
use Rattle.std.specs.List.Sorted.{IsNonDecreasingBy, IsPartitionPoint}
use Rattle.std.specs.FinMap as finite
use Rattle.std.specs.FinMap.{is_sorted}
use Rattle.std.proofs.lemmas.Bool.{ltb-true, ltb-false, ne_eqb}
use Rattle.bk_record.specs.Key.{EntryKey, key_cmp}
use Rattle.bk_record.specs.Location.{Place}
use Rattle.bk_record.specs.Keyed.{Places, without_ledger}
use Rattle.bk_record.proofs.Keys.{key_cmp_total, key_cmp_antisymmetric}
use Rattle.bk_record.proofs.SortedMaps.{retain_keys-sorted}
use Rattle.bk_index.proofs.LedgerPairs.{ledgers_rise}

module _ {X : Type 0} (ledger : ℕ) where
  above_stay : (xs : List (EntryKey × X)) → ((i : ℕ) (d : EntryKey × X) → i < length xs → ledger < (get_or xs i d).0.ledger)
      → filter (λ e. not (e.0.ledger == ledger)) xs ≡ xs
  above_stay [] above = refl
  above_stay (x ∷ xs) above =
      rw (ne_eqb x.0.ledger ledger (omega (arith, above 0 x (omega arith))))
      (ap (λ rest. x ∷ rest) (above_stay xs (λ i d within. above (suc i) d (omega arith))))

  -- if the first pair of no smaller ledger is of another one, or there is none, no pair goes with
  -- those of the ledger
  pub others_stay : (xs : List (EntryKey × X)) (from : ℕ) → IsNonDecreasingBy (λ e. e.0.ledger) xs
      → IsPartitionPoint (λ e. ltb e.0.ledger ledger ≡ true) (λ e. ltb e.0.ledger ledger ≡ false) xs from
      → ((d : EntryKey × X) → from < length xs → (get_or xs from d).0.ledger ≢ ledger) → filter (λ e. not (e.0.ledger == ledger)) xs ≡ xs
  others_stay [] from rise low other = refl
  others_stay (x ∷ xs) zero rise low other =
      above_stay (x ∷ xs) (λ i d within.
      omega (
        arith,
        rise 0 i d (omega arith) within,
        ltb-false (get_or (x ∷ xs) 0 d).0.ledger ledger (low.1 0 d (omega arith) (omega arith)),
        other d (omega arith),
      ))
  others_stay (x ∷ xs) (suc from) rise low other =
      rw (ne_eqb x.0.ledger ledger (omega (arith, ltb-true x.0.ledger ledger (low.0 0 x (omega arith) (omega arith)))))
      (ap (λ rest. x ∷ rest) (others_stay xs from (λ i j d order within. rise (suc i) (suc j) d (omega arith) (omega arith)) (
        λ i d before within. low.0 (suc i) d (omega arith) (omega arith),
        λ i d behind within. low.1 (suc i) d (omega arith) (omega arith),
      ) (λ d within. other d (omega arith))))

pub none_placed : (es : List (EntryKey × Place)) (places : Places) (ledger from : ℕ) → IsTrue (is_sorted key_cmp es) → finite.from_sorted es ≡ places
    → IsPartitionPoint (λ e. ltb e.0.ledger ledger ≡ true) (λ e. ltb e.0.ledger ledger ≡ false) es from
    → ((d : EntryKey × Place) → from < length es → (get_or es from d).0.ledger ≢ ledger) → without_ledger places ledger ≡ places
none_placed es places ledger from sorted is low other =
    ap (λ m. without_ledger m ledger) (sym is)
    ∙ retain_keys-sorted key_cmp es sorted key_cmp_total key_cmp_antisymmetric (λ key. not (key.ledger == ledger))
    ∙ ap finite.from_sorted (others_stay ledger es from (ledgers_rise es sorted) low other)
    ∙ is
