-- The invariant of the caches is preserved by each change.
use Rattle.std.proofs.Common.{◌≡◌, ℕ, ◌+◌, ◌≤◌, Bool, true, false, cond, eqb, List, length, Option, Some, None}
use Rattle.std.proofs.Common.{IsSome, option_map, unwrap_or, is_some, Result, Ok, Err, refl, sym}
use Rattle.std.proofs.Common.{ap, subst, ◌∙◌, arith}
use mathlib.Core.Bool.{false≢true}
use Rattle.std.specs.Ordering.{eq_by_cmp}
use Rattle.std.specs.Cmp.{Equal-is}
use Rattle.std.specs.declared.alloc.AllocError.{AllocError}
use Rattle.std.specs.FinMap.{empty, get, insert, get-empty, get-insert}
use Rattle.bk_record.specs.Key.{EntryKey, key_cmp}
use Rattle.bk_record.specs.Limits.{max_cache_limit}
use Rattle.bk_record.specs.Record.{read_added}
use Rattle.bk_record.specs.Scan.{Payloads}
use Rattle.bk_record.specs.Keyed.{without_ledger}
use Rattle.bk_record.proofs.Keys.{key_cmp_total, key_cmp_antisymmetric}
use Rattle.bk_record.proofs.KeyedLaws.{get-without_ledger}
use Rattle.bk_cache.specs.Recents.{Recents, without_recent}
use Rattle.bk_cache.specs.Caches.{CacheState, used_of, flush_of, without, new_caches}
use Rattle.bk_cache.specs.Transitions.{CacheInsertTransition}
use Rattle.bk_cache.specs.Invariant.{IsSound}
use Rattle.bk_cache.proofs.KeyedPayloads.{keyed_empty, keyed_insert, keyed_without, keyed_flush_without}
use Rattle.bk_cache.proofs.Used.{used_of-empty, used_of-insert, used_of-without_ledger-le}

pub sound_new : (limit most : ℕ) → limit ≤ max_cache_limit → IsSound (new_caches limit most)
sound_new limit most limited =
    record {
      within = rw used_of-empty (omega arith);
      flush_within = rw used_of-empty (omega arith);
      limited = limited;
      apart = λ key has. get-empty key_cmp key;
      keyed = keyed_empty;
      flush_keyed =
          keyed_empty;
    }

pub sound_done : (s : CacheState) → IsSound s → IsSound (record s { flush = None })
sound_done s sound = record {
  within = sound.within;
  flush_within = rw used_of-empty (omega arith);
  limited = sound.limited;
  apart = λ key has. get-empty key_cmp key;
  keyed =
      sound.keyed;
  flush_keyed = keyed_empty;
}

pub sound_swapped : (s : CacheState) → IsSound s → IsSound (record s { active = empty; flush = Some s.active })
sound_swapped s sound =
    record {
      within = rw used_of-empty (omega arith);
      flush_within = sound.within;
      limited = sound.limited;
      apart =
          λ key has. absurd (false≢true (ap is_some (sym (get-empty key_cmp key)) ∙ has));
      keyed = keyed_empty;
      flush_keyed = sound.keyed;
    }

apart_added : (active flush : Payloads) (key : EntryKey) (payload : List ℕ) → ((q : EntryKey) → IsSome (get active q) → get flush q ≡ None)
    → get flush key ≡ None → (q : EntryKey) → IsSome (cond (eq_by_cmp key_cmp q key) (Some payload) (get active q)) → get flush q ≡ None
apart_added active flush key payload apart none q =
    elim (eq_by_cmp key_cmp q key) as (λ b. eq_by_cmp key_cmp q key ≡ b → IsSome (cond b (Some payload) (get active q)) → get flush q ≡ None) [
      | true ↦ λ tied has. ap (get flush) (key_cmp_antisymmetric q key ((Equal-is (key_cmp q key)).0 tied)) ∙ none
      | false ↦ λ _ has. apart q has
    ] refl

sound_inserted : (s : CacheState) (key : EntryKey) (payload : List ℕ) → IsSound s → read_added payload ≡ Ok key → get s.active key ≡ None
    → get (flush_of s) key ≡ None → used_of s.active + length payload ≤ s.limit → IsSound (record s { active = insert s.active key payload })
sound_inserted s key payload sound own absent unflushed fits =
    record {
      within = rw (used_of-insert s.active key payload absent) fits;
      flush_within = sound.flush_within;
      limited = sound.limited;
      apart = λ q has. apart_added s.active (flush_of s) key payload sound.apart unflushed q
          (ap is_some (sym (get-insert key_cmp_total s.active key payload q)) ∙ has);
      keyed = keyed_insert s.active key payload sound.keyed own;
      flush_keyed = sound.flush_keyed;
    }

-- a payload whose key is not in the flush is added to the active cache, which has room for it
pub sound_added : (s : CacheState) (key : EntryKey) (payload : List ℕ) (result : Result Bool AllocError) (active : Payloads) → IsSound s
    → read_added payload ≡ Ok key → get (flush_of s) key ≡ None → used_of s.active + length payload ≤ s.limit → CacheInsertTransition s.active key payload result active
    → IsSound (record s { active = active })
sound_added s key payload (Ok true) active sound own unflushed fits turn =
    subst (λ (m : Payloads). IsSound (record s { active = m })) (sym turn.1) (sound_inserted s key payload sound own turn.0 unflushed fits)
sound_added s key payload (Ok false) active sound own unflushed fits turn =
    subst (λ (m : Payloads). IsSound (record s { active = m })) (sym turn.1) sound
sound_added s key payload (Err fault) active sound own unflushed fits turn =
    subst (λ (m : Payloads). IsSound (record s { active = m })) (sym turn.1) sound

apart_without : (active : Payloads) (flush : Option Payloads) (ledger : ℕ)
    → ((q : EntryKey) → IsSome (get active q) → get (unwrap_or flush empty) q ≡ None) → (q : EntryKey) → IsSome (get (without_ledger active ledger) q)
    → get (unwrap_or (option_map (λ m. without_ledger m ledger) flush) empty) q ≡ None
apart_without active None ledger apart q has = get-empty key_cmp q
apart_without active (Some m) ledger apart q has =
    get-without_ledger m ledger q
    ∙ elim (eqb q.ledger ledger) as (λ b. IsSome (cond b None (get active q)) → cond b None (get m q) ≡ None) [
      | true ↦ λ _. refl
      | false ↦ λ some. apart q some
    ] (ap is_some (sym (get-without_ledger active ledger q)) ∙ has)

flush_used_without-le : (flush : Option Payloads) (ledger : ℕ)
    → used_of (unwrap_or (option_map (λ m. without_ledger m ledger) flush) empty) ≤ used_of (unwrap_or flush empty)
flush_used_without-le None ledger = omega arith
flush_used_without-le (Some m) ledger = used_of-without_ledger-le m ledger

pub sound_without : (s : CacheState) (ledger : ℕ) → IsSound s → IsSound (without s ledger)
sound_without s ledger sound = record {
  within = omega (arith, used_of-without_ledger-le s.active ledger, sound.within);
  flush_within = omega (arith, flush_used_without-le s.flush ledger, sound.flush_within);
  limited = sound.limited;
  apart = apart_without s.active s.flush ledger sound.apart;
  keyed = keyed_without s.active ledger sound.keyed;
  flush_keyed = keyed_flush_without s.flush ledger sound.flush_keyed;
}

-- the same, with each part given separately
pub sound_left : (s : CacheState) (ledger : ℕ) → IsSound s → (active : Payloads) (flush : Option Payloads) (recent : Recents)
    → active ≡ without_ledger s.active ledger → flush ≡ option_map (λ m. without_ledger m ledger) s.flush → recent ≡ without_recent s.recent ledger
    → IsSound (record { active = active; flush = flush; recent = recent; limit = s.limit })
sound_left s ledger sound active flush recent a f r =
    let same : record { active = active; flush = flush; recent = recent; limit = s.limit } ≡ without s ledger =
    λ i. record { active = a i; flush = f i; recent = r i; limit = s.limit } in
    subst IsSound (sym same) (sound_without s ledger sound)
