-- Lemmas on maps by key: the keys of one ledger, and the map without them.
use Rattle.std.proofs.Common.{◌≡◌, ℕ, ◌+◌, Bool, true, false, not, cond, eqb, length, None, refl, sym, ap, ◌∙◌, arith}
use Rattle.std.specs.List.{filter}
use Rattle.std.specs.FinMap as finite
use Rattle.std.proofs.lemmas.List.Sums.{length-filter}
use Rattle.std.proofs.lemmas.List.Filters.{length-filter_both}
use Rattle.bk_record.specs.Key.{EntryKey}
use Rattle.bk_record.specs.Keyed.{Keyed, without_ledger, ledger_count}
use Rattle.bk_record.proofs.Keys.{key_cmp_total, key_cmp_antisymmetric}
use Rattle.bk_record.proofs.SortedMaps.{entries-retain_keys}

module _ {X : Type 0} where
  pub get-without_ledger : (m : Keyed X) (ledger : ℕ) (q : EntryKey) → finite.get (without_ledger m ledger) q
      ≡ cond (eqb q.ledger ledger) None (finite.get m q)
  get-without_ledger m ledger q =
      finite.get-retain_keys m _ q (λ x tied. ap (λ (k : EntryKey). not (eqb k.ledger ledger)) (sym (key_cmp_antisymmetric q x tied)))
      ∙ elim (eqb q.ledger ledger) as (λ b. cond (not b) (finite.get m q) None ≡ cond b None (finite.get m q)) [ true ↦ refl | false ↦ refl ]

  -- the entries of a ledger and the others together are all entries
  pub entries-without_ledger : (m : Keyed X) (ledger : ℕ) → finite.entries (without_ledger m ledger)
      ≡ filter (λ e. not (eqb e.0.ledger ledger)) (finite.entries m)
  entries-without_ledger m ledger = entries-retain_keys key_cmp_total key_cmp_antisymmetric m (λ key. not (eqb key.ledger ledger))

  pub len-without_ledger : (m : Keyed X) (ledger : ℕ) → finite.len (without_ledger m ledger) + ledger_count m ledger ≡ finite.len m
  len-without_ledger m ledger =
      let in_ledger : EntryKey × X → Bool = λ e. eqb e.0.ledger ledger in
      let parts = length-filter_both in_ledger (λ e. not (in_ledger e)) (λ e. refl) (finite.entries m) in
      let counted = length-filter in_ledger (finite.entries m) in
      omega (arith, parts, counted, ap length (entries-without_ledger m ledger), finite.len-entries m, finite.len-entries (without_ledger m ledger))
