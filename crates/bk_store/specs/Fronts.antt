-- The fronts of a store: how many marks of its trail were accepted before the last swap, and how
-- many are durable. Read `AreDurable` first.
use Rattle.std.specs.Prelude.{◌≡◌, ◌⊎◌, ℕ, ◌<◌, ◌≤◌, Bool, true, IsTrue, List, length, Option, Some, None, refl}
use Rattle.std.specs.Coded.{Coded, code_by, coded×, coded_ℕ}
use Rattle.std.specs.FinMap as finite
use Rattle.std.specs.FinSet as set
use Rattle.bk_record.specs.Key.{EntryKey}
use Rattle.bk_record.specs.Keyed.{Places}
use Rattle.bk_record.specs.Location.{Place}
use Rattle.bk_record.specs.Scan.{Payloads}
use Rattle.bk_cache.specs.Caches.{entries_of_flush}
use Rattle.bk_cache.specs.declared.swap.Swap.{Swap}
use Rattle.bk_cache.specs.declared.swap.Swap.TheVariants.{Running, Nothing, Swapped}
use Rattle.sha2.specs.Sha256.{sha256}
use Rattle.bk_store.specs.Entries.{HasEntry}
use Rattle.bk_store.specs.Ledgers.{KnownLedgers}
use Rattle.bk_store.specs.Logs.{Logs, open_parts}
use Rattle.bk_store.specs.Trail.{HasAddMark}
use Rattle.bk_store.specs.declared.fronts.Fronts.{Fronts}
use Rattle.bk_store.specs.declared.mark.Mark.{Mark}

-- ---- changes of the fronts

-- both fronts are at this mark
abbrev pub fronts_at : ℕ → Fronts
fronts_at front = record { swapped = front; durable = front }

-- The fronts after a swap with this answer, in a store with this many marks. A flush that begins
-- has all of them. If nothing is cached, all of them are durable.
abbrev pub fronts_after_swap : Swap → ℕ → Fronts → Fronts
fronts_after_swap Running front f = f
fronts_after_swap Nothing front f = fronts_at front
fronts_after_swap (Swapped n) front f = record f { swapped = front }

-- The flush has ended: what it had is durable.
abbrev pub fronts_after_flush : Fronts → Fronts
fronts_after_flush f = fronts_at f.swapped

-- ---- the invariant

-- no key that a mark below this number adds is cached
abbrev pub NoneCachedBelow : List Mark → ℕ → Payloads → Type 0
NoneCachedBelow trail end cached = (number : ℕ) (key : EntryKey) (digest : List ℕ) → number < end → HasAddMark trail number key digest
    → finite.get cached key ≡ None

-- The fronts are in order. On an honest disk no key that was added below the swapped front is in the
-- active cache, and none below the durable front is in the flushing cache.
pub record FrontsInvariant (honest : Bool) (fronts : Fronts) (trail : List Mark) (active : Payloads) (flush : Option Payloads) : Type 0 where
  pub order : fronts.durable ≤ fronts.swapped
  pub within : fronts.swapped ≤ length trail
  pub taken : IsTrue honest → NoneCachedBelow trail fronts.swapped active
  pub flushed : IsTrue honest → NoneCachedBelow trail fronts.durable (entries_of_flush flush)

-- ---- what is durable

-- The index points the key to an entry with this digest, in the published part of an open log. This
-- part was synced, so the entry survives a crash.
pub record IsDurableEntry (index : Places) (held : Logs) (key : EntryKey) (digest : List ℕ) : Type 0 where
  pub place : Place
  pub payload : List ℕ
  pub sent : finite.get index key ≡ Some place
  pub shown : HasEntry (open_parts held) place key payload
  pub digest_is : digest ≡ sha256 payload

-- The entry of each add with a mark below this number is durable, or its ledger is deleted.
abbrev pub AreDurable : ℕ → Places → Logs → KnownLedgers → Type 0
AreDurable front index held known = (number : ℕ) (key : EntryKey) (digest : List ℕ) → number < front → HasAddMark known.trail number key digest
    → (set.contains known.dead key.ledger ≡ true) ⊎ IsDurableEntry index held key digest

-- ---- representation in a model

abbrev pub fronts_code : Coded Fronts
fronts_code = code_by (ℕ × ℕ) (coded× coded_ℕ coded_ℕ) (λ f. (f.swapped, f.durable)) (λ p. record { swapped = p.0; durable = p.1 }) (λ _. refl)
