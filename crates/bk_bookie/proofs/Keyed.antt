-- Cached payloads are stored under their keys (`AreKeyed`), through every transition.
use Rattle.std.proofs.Common.{◌≡◌, inl, inr, ℕ, List, Option, Some, None, Ok, true, false, eqb, cond, sym, ap, ◌∙◌, subst, option_map}
use Rattle.std.specs.FinMap as finite
use Rattle.std.specs.FinMap.{get-empty}
use Rattle.std.specs.Result.{result_unwrap_or}
use Rattle.bk_record.specs.Key.{EntryKey, key_cmp}
use Rattle.bk_record.specs.Keyed.{without_ledger}
use Rattle.bk_record.specs.Record.{read_added}
use Rattle.bk_record.specs.Scan.{Payloads}
use Rattle.bk_cache.specs.Caches as caches
use Rattle.bk_record.proofs.KeyedLaws.{get-without_ledger}
use Rattle.bk_record.proofs.Keys.{key_cmp_total, key_cmp_antisymmetric}
use Rattle.bk_record.proofs.Maps.{get-insert_cases}
use Rattle.bk_bookie.specs.Guarded.{AreKeyed}

pub all_keyed_empty : caches.AllKeyed finite.empty
all_keyed_empty key payload is = let wrong : ◌≡◌ {A = Option (List ℕ)} None (Some payload) = sym (get-empty key_cmp key) ∙ is in cc

all_keyed_without : (m : Payloads) (ledger : ℕ) → caches.AllKeyed m → caches.AllKeyed (without_ledger m ledger)
all_keyed_without m ledger keyed key payload is =
    let left = sym (get-without_ledger m ledger key) ∙ is in
    keyed key payload (elim (eqb key.ledger ledger) as (λ b. cond b None (finite.get m key) ≡ Some payload → finite.get m key ≡ Some payload) [
      | true ↦ λ never. cc
      | false ↦ λ there. there
    ] left)

-- Empty caches.
pub keyed_new : (limit most : ℕ) → AreKeyed (caches.new_caches limit most)
keyed_new limit most = record { active = all_keyed_empty; flush = all_keyed_empty }

-- An accepted payload gives its key.
added_is : (payload : List ℕ) (key : EntryKey) → read_added payload ≡ Ok key → caches.added_key payload ≡ key
added_is payload key reads = ap (λ r. result_unwrap_or r (record { ledger = 0; entry = 0 })) reads

pub keyed_added : (c : caches.CacheState) (payload : List ℕ) (key : EntryKey) → read_added payload ≡ Ok key → AreKeyed c → AreKeyed (caches.with_added c payload)
keyed_added c payload key reads keyed = record {
  active = λ k p is. elim (get-insert_cases key_cmp_total key_cmp_antisymmetric c.active (caches.added_key payload) payload k p is) [
    | inl new ↦
        let own : read_added payload ≡ Ok k = reads ∙ ap Ok (sym (new.0 ∙ added_is payload key reads)) in
        subst (λ (x : List ℕ). read_added x ≡ Ok k) new.1 own
    | inr old ↦ keyed.active k p old.1
  ];
  flush = keyed.flush;
}

flush_without : (flush : Option Payloads) (ledger : ℕ) → caches.AllKeyed (caches.entries_of_flush flush)
    → caches.AllKeyed (caches.entries_of_flush (option_map (λ m. without_ledger m ledger) flush))
flush_without None ledger keyed = keyed
flush_without (Some m) ledger keyed = all_keyed_without m ledger keyed

pub keyed_without : (c : caches.CacheState) (ledger : ℕ) → AreKeyed c → AreKeyed (caches.without c ledger)
keyed_without c ledger keyed = record { active = all_keyed_without c.active ledger keyed.active; flush = flush_without c.flush ledger keyed.flush }
