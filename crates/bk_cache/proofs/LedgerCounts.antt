-- Greatest number of keys of a ledger in the write caches: each payload has at least 16 bytes.
use Rattle.std.proofs.Common.{◌≡◌, ℕ, ◌+◌, ◌*◌, ◌≤◌, true, false, cond, eqb, List, [], ◌∷◌, length, Ok, Err, if◌then◌else◌, nat_lt, inl, inr, refl, arith}
use Rattle.std.specs.List.{sum_by, count_by}
use Rattle.std.specs.Option.{ok_or}
use Rattle.std.specs.FinMap.{entries}
use Rattle.std.proofs.lemmas.Bool.{ltb-false}
use Rattle.std.proofs.lemmas.List.Sums.{sum_by-cons}
use Rattle.bk_record.specs.Key.{EntryKey}
use Rattle.bk_record.specs.Files.{In}
use Rattle.bk_record.specs.declared.fault.RecordFault.{RecordFault}
use Rattle.bk_record.specs.declared.fault.RecordFault.TheVariants.{Short, Negative}
use Rattle.bk_record.specs.Record.{read_key, read_added, key_of, unless_too_long}
use Rattle.bk_record.specs.Scan.{Payloads}
use Rattle.bk_record.specs.Keyed.{ledger_count}
use Rattle.bk_record.proofs.Keys.{key_cmp_total, key_cmp_antisymmetric}
use Rattle.bk_record.proofs.Entries.{In-get}
use Rattle.bk_cache.specs.Recents.{Entry}
use Rattle.bk_cache.specs.Caches.{CacheState, used_of, flush_of, AllKeyed}
use Rattle.bk_cache.specs.Invariant.{IsSound}
use Rattle.bk_cache.proofs.Seen.{sum_by-map}

no_key : (n : ℕ) (fault : RecordFault) (key : EntryKey) → unless_too_long n (Err fault) ≡ Ok key → ⊥
no_key n fault key is = cc

-- a payload that an add accepts has at least 16 bytes
pub added_length-le : (payload : List ℕ) (key : EntryKey) → read_added payload ≡ Ok key → 16 ≤ length payload
unfolding read_added read_key
added_length-le payload key is =
    elim (nat_lt (length payload) 16) as (λ b. nat_lt (length payload) 16 ≡ b
    → unless_too_long (length payload) (if b then Err (Short (length payload)) else ok_or (key_of payload) Negative) ≡ Ok key → 16 ≤ length payload) [
      | true ↦ λ _ none. absurd (no_key (length payload) (Short (length payload)) key none)
      | false ↦ λ long _. ltb-false (length payload) 16 long
    ] refl is

counted-le : (ledger : ℕ) (es : List Entry) → ((key : EntryKey) (payload : List ℕ) → In (key, payload) es → 16 ≤ length payload)
    → 16 * count_by (λ e. eqb e.0.ledger ledger) es ≤ sum_by (λ e. length e.1) es
counted-le ledger [] long = omega arith
counted-le ledger (e ∷ es) long =
    let rest = counted-le ledger es (λ key payload there. long key payload (inr there)) in
    let here = long e.0 e.1 (inl refl) in
    let counts = sum_by-cons (λ (x : Entry). cond (eqb x.0.ledger ledger) 1 0) e es in
    let bytes = sum_by-cons (λ (x : Entry). length x.1) e es in
    elim (eqb e.0.ledger ledger) as (λ b. count_by (λ x. eqb x.0.ledger ledger) (e ∷ es) ≡ cond b 1 0 + count_by (λ x. eqb x.0.ledger ledger) es
    → 16 * count_by (λ x. eqb x.0.ledger ledger) (e ∷ es) ≤ sum_by (λ x. length x.1) (e ∷ es)) [
      | true ↦ λ is. omega (arith, is, rest, here, bytes)
      | false ↦ λ is. omega (arith, is, rest, here, bytes)
    ] counts

pub ledger_count-used : (m : Payloads) (ledger : ℕ) → AllKeyed m → 16 * ledger_count m ledger ≤ used_of m
ledger_count-used m ledger keyed =
    let each = counted-le ledger (entries m)
    (λ key payload there. added_length-le payload key (keyed key payload (In-get key_cmp_total key_cmp_antisymmetric m key payload there))) in
    omega (arith, each, sum_by-map length (λ (e : Entry). e.1) (entries m))

-- bound for both caches together
pub ledger_counts-le : (s : CacheState) (ledger : ℕ) → IsSound s → ledger_count s.active ledger + ledger_count (flush_of s) ledger ≤ 134217728
ledger_counts-le s ledger sound =
    let active = ledger_count-used s.active ledger sound.keyed in
    let flush = ledger_count-used (flush_of s) ledger sound.flush_keyed in
    omega (arith, active, flush, sound.within, sound.flush_within, sound.limited)
