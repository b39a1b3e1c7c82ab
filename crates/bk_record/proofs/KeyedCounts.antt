-- Number of keys of a log and of a ledger after insertions, relocations and removals.
use Rattle.std.proofs.Common.{◌≡◌, ◌≢◌, ℕ, ◌+◌, ◌<◌, ◌≤◌, cond, eqb, Option, Some, None, IsSome, Bool, true, false, not, refl, ap, ◌∙◌, arith}
use Rattle.std.specs.Option.{option_or}
use Rattle.std.specs.FinMap as finite
use Rattle.std.proofs.lemmas.Bool.{eq-eqb, eqb-true}
use Rattle.std.proofs.lemmas.List.Sums.{count_by-le-length}
use Rattle.bk_record.specs.Key.{EntryKey}
use Rattle.bk_record.specs.Location.{Place}
use Rattle.bk_record.specs.Keyed.{Keyed, Places, without_ledger, of_ledger, ledger_count, log_count, counted_in}
use Rattle.bk_record.proofs.Keys.{key_cmp_total, key_cmp_antisymmetric}
use Rattle.bk_record.proofs.Weights.{weight_at, weight-insert, weight-remove, weight-retain_keys, weight-union, weight-none, weight-empty, weight-le}

-- ---- keys of a log

abbrev pub one_if : Bool → ℕ
one_if b = cond b 1 0

abbrev in_log : ℕ → EntryKey × Place → ℕ
in_log log e = cond (eqb e.1.log log) 1 0

weight_at-log : (log : ℕ) (key : EntryKey) (o : Option Place) → weight_at key_cmp_total key_cmp_antisymmetric (in_log log) key o ≡ counted_in o log
weight_at-log log key None = refl
weight_at-log log key (Some place) = refl

counted_in-apart : (place : Place) (log : ℕ) → place.log ≢ log → counted_in (Some place) log ≡ 0
counted_in-apart place log apart = elim (eqb place.log log) as (λ b. eqb place.log log ≡ b → one_if b ≡ 0) [
  | true ↦ λ same. absurd (apart (eqb-true place.log log same))
  | false ↦ λ _. refl
] refl

counted_in-here : (place : Place) (log : ℕ) → place.log ≡ log → counted_in (Some place) log ≡ 1
counted_in-here place log same = ap (λ (b : Bool). cond b 1 0) (eq-eqb place.log log same)

-- inserting a key with a place; the key may have had another place
pub log_count-insert : (m : Places) (key : EntryKey) (place : Place) (log : ℕ)
    → log_count (finite.insert m key place) log + counted_in (finite.get m key) log ≡ log_count m log + counted_in (Some place) log
log_count-insert m key place log =
    omega (arith, weight-insert key_cmp_total key_cmp_antisymmetric (in_log log) m key place, weight_at-log log key (finite.get m key))

-- inserting a new key
pub log_count-new : (m : Places) (key : EntryKey) (place : Place) (log : ℕ) → finite.get m key ≡ None
    → log_count (finite.insert m key place) log ≡ log_count m log + counted_in (Some place) log
log_count-new m key place log none = omega (arith, log_count-insert m key place log, ap (λ o. counted_in o log) none)

-- removing a key
pub log_count-remove : (m : Places) (key : EntryKey) (log : ℕ) → log_count (finite.remove m key) log + counted_in (finite.get m key) log ≡ log_count m log
log_count-remove m key log =
    omega (arith, weight-remove key_cmp_total key_cmp_antisymmetric (in_log log) m key, weight_at-log log key (finite.get m key))

-- removing a ledger
pub log_count-without_ledger : (m : Places) (ledger log : ℕ) → log_count (without_ledger m ledger) log + log_count (of_ledger m ledger) log ≡ log_count m log
log_count-without_ledger m ledger log =
    omega (
      arith,
      weight-retain_keys key_cmp_total key_cmp_antisymmetric (in_log log) m (λ k. eqb k.ledger ledger) (λ k. not (eqb k.ledger ledger))
          (λ k. refl),
    )

pub log_count-le-len : (m : Places) (log : ℕ) → log_count m log ≤ finite.len m
log_count-le-len m log = omega (arith, count_by-le-length (λ (e : EntryKey × Place). eqb e.1.log log) (finite.entries m), finite.len-entries m)

-- a log has no keys exactly if no place is in it
pub log_count-none : (m : Places) (log : ℕ) → ((key : EntryKey) (place : Place) → finite.get m key ≡ Some place → place.log ≢ log) → log_count m log ≡ 0
log_count-none m log none = weight-none key_cmp_total key_cmp_antisymmetric (in_log log) m (λ key place is. counted_in-apart place log (none key place is))

pub log_count-some : (m : Places) (log : ℕ) (key : EntryKey) (place : Place) → finite.get m key ≡ Some place → place.log ≡ log → 0 < log_count m log
log_count-some m log key place is here =
    omega (arith, weight-le key_cmp_total key_cmp_antisymmetric (in_log log) m key place is, counted_in-here place log here)

pub log_count-zero : (m : Places) (log : ℕ) → log_count m log ≡ 0 → (key : EntryKey) (place : Place) → finite.get m key ≡ Some place → place.log ≢ log
log_count-zero m log zero key place is here = omega (arith, zero, log_count-some m log key place is here)

-- ---- keys of a ledger

module _ {X : Type 0} where
  abbrev in_ledger : ℕ → EntryKey × X → ℕ
  in_ledger ledger e = cond (eqb e.0.ledger ledger) 1 0

  pub ledger_count-remove : (m : Keyed X) (key : EntryKey) (w : X) (ledger : ℕ) → finite.get m key ≡ Some w
      → ledger_count (finite.remove m key) ledger + cond (eqb key.ledger ledger) 1 0 ≡ ledger_count m ledger
  ledger_count-remove m key w ledger is =
      omega (
        arith,
        weight-remove key_cmp_total key_cmp_antisymmetric (in_ledger ledger) m key,
        ap
            (weight_at key_cmp_total key_cmp_antisymmetric (in_ledger ledger) key) is,
      )

  pub ledger_count-union : (u m n : Keyed X) (ledger : ℕ) → ((q : EntryKey) → finite.get u q ≡ option_or (finite.get n q) (finite.get m q))
      → ((q : EntryKey) → IsSome (finite.get n q) → finite.get m q ≡ None) → ledger_count u ledger ≡ ledger_count m ledger + ledger_count n ledger
  ledger_count-union u m n ledger is apart = weight-union key_cmp_total key_cmp_antisymmetric (in_ledger ledger) u m n is apart

  pub ledger_count-of_empty : (m : Keyed X) (ledger : ℕ) → m ≡ finite.empty → ledger_count m ledger ≡ 0
  ledger_count-of_empty m ledger is = ap (λ n. ledger_count n ledger) is ∙ weight-empty key_cmp_total key_cmp_antisymmetric (in_ledger ledger)
