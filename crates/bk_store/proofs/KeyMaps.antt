-- Maps from keys, and deleted ledgers, after one change.
use Rattle.std.proofs.Common.{◌≡◌, ◌≢◌, ◌⊎◌, inl, inr, ℕ, Some, None, true, false, cond, ◌||◌, eqb, refl, sym, ap, ◌∙◌}
use Rattle.std.proofs.lemmas.Bool.{eqb-true, eq-eqb}
use Rattle.std.proofs.lemmas.Cmp.{nat_cmp_total, tied_itself}
use Rattle.std.proofs.lemmas.Map.Views.{tells_apart}
use Rattle.std.specs.Ordering.{nat_cmp, eq_by_cmp, is_eq}
use Rattle.std.specs.FinMap as finite
use Rattle.std.specs.FinMap.{nat_cmp-IsAntisymmetric}
use Rattle.std.specs.FinSet as set
use Rattle.bk_record.specs.Key.{EntryKey}
use Rattle.bk_record.specs.Keyed.{Keyed, without_ledger}
use Rattle.bk_record.specs.Scan.{Ledgers}
use Rattle.bk_record.proofs.Keys.{key_cmp_total, key_cmp_antisymmetric}
use Rattle.bk_record.proofs.KeyedLaws.{get-without_ledger}
use Rattle.bk_record.proofs.Maps.{key_cases, get-insert_here, get-insert_else, get-insert_cases}

pub same_key : (q k : EntryKey) → (q ≡ k) ⊎ (q ≢ k)
same_key q k = elim (key_cases key_cmp_total key_cmp_antisymmetric q k) [ inl same ↦ inl same | inr apart ↦ inr apart.1 ]

module _ {X : Type 0} where
  pub get-insert_other : (m : Keyed X) (k : EntryKey) (v : X) (q : EntryKey) → q ≢ k → finite.get (finite.insert m k v) q ≡ finite.get m q
  get-insert_other m k v q apart = get-insert_else key_cmp_total key_cmp_antisymmetric m k v q apart

  -- what an insertion has is what was put or what was there
  pub inserted_cases : (m : Keyed X) (k : EntryKey) (v : X) (q : EntryKey) (w : X) → finite.get (finite.insert m k v) q ≡ Some w
      → ((q ≡ k) × (v ≡ w)) ⊎ ((q ≢ k) × (finite.get m q ≡ Some w))
  inserted_cases m k v q w is = get-insert_cases key_cmp_total key_cmp_antisymmetric m k v q w is

  pub inserted_here : (m : Keyed X) (k : EntryKey) (v : X) (q : EntryKey) → q ≡ k → finite.get (finite.insert m k v) q ≡ Some v
  inserted_here m k v q here = ap (λ (x : EntryKey). finite.get (finite.insert m k v) x) here ∙ get-insert_here key_cmp_total key_cmp_antisymmetric m k v

  -- what is left without a ledger was there, and is of another
  pub left_cases : (m : Keyed X) (ledger : ℕ) (q : EntryKey) (w : X) → finite.get (without_ledger m ledger) q ≡ Some w
      → (q.ledger ≢ ledger) × (finite.get m q ≡ Some w)
  left_cases m ledger q w is =
      let left = sym (get-without_ledger m ledger q) ∙ is in
      elim (eqb q.ledger ledger) as (λ b. eqb q.ledger ledger ≡ b → cond b None (finite.get m q) ≡ Some w → (q.ledger ≢ ledger) × (finite.get m q ≡ Some w)) [
        | true ↦ λ _ never. cc
        | false ↦ λ other there. ((λ same. let tied = eq-eqb q.ledger ledger same in cc), there)
      ] refl left

  pub left_same : (m : Keyed X) (ledger : ℕ) (q : EntryKey) → q.ledger ≢ ledger → finite.get (without_ledger m ledger) q ≡ finite.get m q
  left_same m ledger q apart =
      get-without_ledger m ledger q ∙ elim (eqb q.ledger ledger) as (λ b. eqb q.ledger ledger ≡ b → cond b None (finite.get m q) ≡ finite.get m q) [
        | true ↦ λ tied. absurd (apart (eqb-true q.ledger ledger tied))
        | false ↦ λ _. refl
      ] refl

-- ---- one ledger more is deleted

pub still_lives : (dead : Ledgers) (ledger q : ℕ) → set.contains (set.insert dead ledger) q ≡ false → (q ≢ ledger) × (set.contains dead q ≡ false)
still_lives dead ledger q is =
    let told = sym (set.contains-insert nat_cmp_total dead ledger q) ∙ is in
    elim (eq_by_cmp nat_cmp q ledger) as (λ b. eq_by_cmp nat_cmp q ledger ≡ b → (b || set.contains dead q) ≡ false
    → (q ≢ ledger) × (set.contains dead q ≡ false)) [
      | true ↦ λ _ never. cc
      | false ↦ λ apart lives. (
        (λ same. let tied = ap (λ (x : ℕ). eq_by_cmp nat_cmp q x) (sym same) ∙ ap is_eq (tied_itself nat_cmp_total q) in cc),
        lives,
      )
    ] refl told

pub lives_still : (dead : Ledgers) (ledger q : ℕ) → q ≢ ledger → set.contains dead q ≡ false → set.contains (set.insert dead ledger) q ≡ false
lives_still dead ledger q apart lives =
    set.contains-insert nat_cmp_total dead ledger q
    ∙ elim (eq_by_cmp nat_cmp q ledger) as (λ b. eq_by_cmp nat_cmp q ledger ≡ b → (b || set.contains dead q) ≡ false) [
      | true ↦ λ tied. absurd (apart (tells_apart nat_cmp-IsAntisymmetric q ledger tied))
      | false ↦ λ _. lives
    ] refl
