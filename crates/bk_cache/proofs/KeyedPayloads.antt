-- Each payload is stored under its own key, after each change of a cache.
use Rattle.std.proofs.Common.{◌≡◌, ℕ, true, false, cond, eqb, List, Option, Some, None, option_map, unwrap_or, Ok, refl, sym, ap, subst, ◌∙◌}
use Rattle.std.specs.Ordering.{eq_by_cmp}
use Rattle.std.specs.Cmp.{Equal-is}
use Rattle.std.specs.FinMap.{empty, get, insert, get-empty, get-insert}
use Rattle.bk_record.specs.Key.{EntryKey, key_cmp}
use Rattle.bk_record.specs.Record.{read_added}
use Rattle.bk_record.specs.Scan.{Payloads}
use Rattle.bk_record.specs.Keyed.{without_ledger}
use Rattle.bk_record.proofs.Keys.{key_cmp_total, key_cmp_antisymmetric}
use Rattle.bk_record.proofs.KeyedLaws.{get-without_ledger}
use Rattle.bk_record.proofs.SortedPairs.{Some-same}
use Rattle.bk_cache.specs.Caches.{AllKeyed}

pub keyed_empty : AllKeyed empty
keyed_empty key payload is = let none = get-empty {X = List ℕ} key_cmp key in cc

pub keyed_insert : (m : Payloads) (key : EntryKey) (payload : List ℕ) → AllKeyed m → read_added payload ≡ Ok key → AllKeyed (insert m key payload)
keyed_insert m key payload keyed own q p is =
    elim (eq_by_cmp key_cmp q key) as (λ b. eq_by_cmp key_cmp q key ≡ b → cond b (Some payload) (get m q) ≡ Some p → read_added p ≡ Ok q) [
      | true ↦ λ tied found. subst (λ (bytes : List ℕ). read_added bytes ≡ Ok q) (Some-same found)
          (own ∙ ap Ok (sym (key_cmp_antisymmetric q key ((Equal-is (key_cmp q key)).0 tied))))
      | false ↦ λ _ found. keyed q p found
    ] refl (sym (get-insert key_cmp_total m key payload q) ∙ is)

pub keyed_without : (m : Payloads) (ledger : ℕ) → AllKeyed m → AllKeyed (without_ledger m ledger)
keyed_without m ledger keyed q p is =
    elim (eqb q.ledger ledger) as (λ b. cond b None (get m q) ≡ Some p → read_added p ≡ Ok q) [
      | true ↦ λ found. cc
      | false ↦ λ found. keyed q p found
    ] (sym (get-without_ledger m ledger q) ∙ is)

-- the same for the running flush
pub keyed_flush_without : (flush : Option Payloads) (ledger : ℕ) → AllKeyed (unwrap_or flush empty)
    → AllKeyed (unwrap_or (option_map (λ m. without_ledger m ledger) flush) empty)
keyed_flush_without None ledger keyed = keyed
keyed_flush_without (Some m) ledger keyed = keyed_without m ledger keyed
