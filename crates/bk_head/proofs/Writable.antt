-- A map can still be written after a pair is inserted.
use Rattle.std.proofs.Common.{◌≡◌, ℕ, ◌+◌, ◌^◌, ◌<◌, ◌≤◌, cond, Some, sym, ap, ◌∙◌, arith, inl, inr}
use Rattle.std.specs.Ordering.{nat_cmp, eq_by_cmp}
use Rattle.std.specs.Cmp.{nat_cmp_total}
use Rattle.std.specs.FinMap as ledgers
use Rattle.std.proofs.lemmas.Bool.{cases_Bool, cases_cond}
use Rattle.std.proofs.lemmas.Option.{none-some, same_Some}
use Rattle.bk_head.specs.Ledgers.{LedgersMap, IsPair}
use Rattle.bk_head.specs.Written.{IsWritable}
use Rattle.bk_head.proofs.Distinct.{tied}

-- at most `most` ledgers, and no number above 2 ^ 63 - 1
pub record IsSmall (map : LedgersMap) (most : ℕ) : Type 0 where
  pub few : ledgers.len map ≤ most
  pub each : (ledger size : ℕ) → ledgers.get map ledger ≡ Some size → IsPair (ledger, size)

pub small_empty : (map : LedgersMap) → map ≡ ledgers.empty → IsSmall map 0
small_empty map is = record {
  few = omega (arith, ap (λ (m : LedgersMap). ledgers.len m) is, ledgers.len-empty nat_cmp ℕ);
  each = λ ledger size found. absurd (none-some size (sym (ledgers.get-empty nat_cmp ledger) ∙ ap (λ (m : LedgersMap). ledgers.get m ledger) (sym is)
      ∙ found));
}

pub small_insert : (old new : LedgersMap) (ledger size most : ℕ) → new ≡ ledgers.insert old ledger size → IsPair (ledger, size) → IsSmall old most
    → IsSmall new (most + 1)
small_insert old new ledger size most is pair s =
    let long : ledgers.len new ≡ cond (ledgers.contains_key old ledger) (ledgers.len old) (ledgers.len old + 1) = ap
    (λ (m : LedgersMap). ledgers.len m) is ∙ ledgers.len-insert nat_cmp_total old ledger size in
    record {
      few = elim (cases_cond (ledgers.contains_key old ledger) (ledgers.len old) (ledgers.len old + 1) (ledgers.len new) long)
          [ inl e ↦ omega (arith, s.few, e) | inr e ↦ omega (arith, s.few, e) ];
      each = λ q v found.
          let at : cond (eq_by_cmp nat_cmp q ledger) (Some size) (ledgers.get old q)
          ≡ Some v = sym (ledgers.get-insert nat_cmp_total old ledger size q) ∙ ap (λ (m : LedgersMap). ledgers.get m q) (sym is) ∙ found in
          elim (cases_Bool (eq_by_cmp nat_cmp q ledger)) [
            | inl same ↦
                let value : size ≡ v = same_Some size v (ap (λ b. cond b (Some size) (ledgers.get old q)) (sym same) ∙ at) in
                let key : q ≡ ledger = tied q ledger same in
                (omega (arith, key, pair.0), omega (arith, value, pair.1))
            | inr other ↦ s.each q v (ap (λ b. cond b (Some size) (ledgers.get old q)) (sym other) ∙ at)
          ];
    }

pub writable : (map : LedgersMap) (most : ℕ) → most < 2 ^ 31 → IsSmall map most → IsWritable map
writable map most few s = record { few = omega (arith, s.few); each = s.each }
