-- A flush keeps the logical contents of a store, and leaves nothing in a write cache only.
use Rattle.std.proofs.Common.{◌≡◌, ℕ, cond, refl, List, Option, Some, None, Result, Ok, Err, OnOk, sym, ap, ◌∙◌}
use Rattle.std.specs.Option.{option_or}
use Rattle.std.specs.FinMap as finite
use Rattle.std.specs.FinSet as set
use Rattle.bk_record.specs.Key.{EntryKey, key_cmp}
use Rattle.bk_record.specs.Scan.{Payloads, scan_of}
use Rattle.bk_cache.specs.Caches as caches
use Rattle.bk_cache.specs.declared.swap.Swap.{Swap}
use Rattle.bk_cache.specs.declared.swap.Swap.TheVariants.{Running, Nothing, Swapped}
use Rattle.bk_store.specs.State.{State}
use Rattle.bk_store.specs.Contents.{PreservesContents, SameContents, contents_at}
use Rattle.bk_store.specs.Transitions.{SwapTransition, swapped_fronts}
use Rattle.bk_store.proofs.SameContents.{means_same}
use Rattle.bk_import.specs.Importing.{IsFlushed}

-- what two write caches have of a key
abbrev written : Payloads → Option Payloads → EntryKey → Option (List ℕ)
written active flush key = option_or (finite.get active key) (finite.get (caches.entries_of_flush flush) key)

option_or-none : (o : Option (List ℕ)) → option_or o None ≡ o
option_or-none None = refl
option_or-none (Some x) = refl

-- one write cache alone has the same as the active one and as the flushing one
only_active : (active : Payloads) (key : EntryKey) → written active None key ≡ finite.get active key
only_active active key = ap (option_or (finite.get active key)) (finite.get-empty key_cmp key) ∙ option_or-none (finite.get active key)

only_flushing : (flush : Payloads) (key : EntryKey) → written finite.empty (Some flush) key ≡ finite.get flush key
only_flushing flush key = ap (λ o. option_or o (finite.get flush key)) (finite.get-empty {X = List ℕ} key_cmp key)

swapped_means : (s t : State) → s.caches.flush ≡ None
    → t ≡ record s { caches = record s.caches { active = finite.empty; flush = Some s.caches.active }; fronts = t.fronts } → SameContents s t
swapped_means s t none is key =
    ap (λ x. contents_at x key) is
    ∙ ap (λ o. cond (set.contains s.ledgers.dead key.ledger) None (option_or o (finite.get (scan_of s.files) key)))
    (only_flushing s.caches.active key ∙ sym (ap (λ f. written s.caches.active f key) none ∙ only_active s.caches.active key))

-- a swap moves the entries from one write cache to the other
pub swap_preserves : (s t : State) (answer : Swap) → SwapTransition s answer t → PreservesContents s t
swap_preserves s t Running turn = record { honest = ap (λ (x : State). x.honest) turn.1; meaning = λ _. means_same s t turn.1 }
swap_preserves s t Nothing turn = record { honest = ap (λ (x : State). x.honest) turn.2; meaning = λ _ key. ap (λ (x : State). contents_at x key) turn.2 }
swap_preserves s t (Swapped n) turn = record { honest = ap (λ (x : State). x.honest) turn.3; meaning = λ _. swapped_means s t turn.0 (left_as turn.3) }
  where
    left_as : t ≡ record s { caches = record s.caches { active = finite.empty; flush = Some s.caches.active }; fronts = swapped_fronts (Swapped n) s }
        → t ≡ record s { caches = record s.caches { active = finite.empty; flush = Some s.caches.active }; fronts = t.fronts }
    left_as is = is ∙ ap (λ f. record s { caches = record s.caches { active = finite.empty; flush = Some s.caches.active }; fronts = f }) (sym (ap (λ (x : State). x.fronts) is))

-- Empty caches have nothing.
pub is_flushed : (s : State) → s.caches.active ≡ finite.empty → s.caches.flush ≡ None → IsFlushed s
is_flushed s active flush key = (λ i. written (active i) (flush i) key) ∙ only_active finite.empty key ∙ finite.get-empty key_cmp key

-- nothing to swap
pub nothing_flushed : (s t : State) → SwapTransition s Nothing t → IsFlushed t
nothing_flushed s t turn =
    is_flushed t (ap (λ (x : State). x.caches.active) turn.2 ∙ finite.empty_of_len s.caches.active turn.1)
    (ap (λ (x : State). x.caches.flush) turn.2 ∙ turn.0)

-- after a flush of what was swapped, if it ended
pub swapped_flushed : {T E : Type 0} (s t u : State) (n : ℕ) (result : Result T E) → SwapTransition s (Swapped n) t
    → u.caches.active ≡ t.caches.active → OnOk result (u.caches.flush ≡ None) → OnOk result (IsFlushed u)
swapped_flushed s t u n (Ok _) turn active flush = is_flushed u (active ∙ ap (λ (x : State). x.caches.active) turn.3) flush
swapped_flushed s t u n (Err _) turn active flush = tt

-- other steps with the same write caches
pub stays_flushed : (s t : State) → IsFlushed s → t.caches.active ≡ s.caches.active → t.caches.flush ≡ s.caches.flush → IsFlushed t
stays_flushed s t is active flush key = (λ i. written (active i) (flush i) key) ∙ is key
