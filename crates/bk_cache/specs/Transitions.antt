-- Transitions of the caches: state before, result, state after.
use Rattle.std.specs.Prelude.{◌≡◌, ◌<◌, ℕ, Bool, true, false, List, Some, None, IsSome, Result, Ok, Err}
use Rattle.std.specs.FinMap as map
use Rattle.std.specs.declared.alloc.AllocError.{AllocError}
use Rattle.bk_record.specs.Key.{EntryKey}
use Rattle.bk_record.specs.Scan.{Payloads}
use Rattle.bk_cache.specs.Caches.{CacheState, used_of, IsFull, write_cached_payload, with_added}
use Rattle.bk_cache.specs.declared.cache_add.CacheAdd.{CacheAdd}
use Rattle.bk_cache.specs.declared.cache_add.CacheAdd.TheVariants.{Taken, Held}
use Rattle.bk_cache.specs.declared.fault.CacheFault.{CacheFault}
use Rattle.bk_cache.specs.declared.fault.CacheFault.TheVariants.{Full, Memory}
use Rattle.bk_cache.specs.declared.swap.Swap.{Swap}
use Rattle.bk_cache.specs.declared.swap.Swap.TheVariants.{Swapped, Running, Nothing}

-- If a flush runs or the active cache is empty, nothing changes. Otherwise the active cache becomes
-- the flushing one.
abbrev pub CacheSwapTransition : CacheState → Swap → CacheState → Type 0
CacheSwapTransition s Running t = IsSome s.flush × (t ≡ s)
CacheSwapTransition s Nothing t = (s.flush ≡ None) × (map.len s.active ≡ 0) × (t ≡ s)
CacheSwapTransition s (Swapped count) t =
    (s.flush ≡ None) × (0 < count) × (count ≡ map.len s.active) × (t ≡ record s { active = map.empty; flush = Some s.active })

-- An existing key is unchanged. A new one gets its payload, unless an allocation fails.
abbrev pub CacheInsertTransition : Payloads → EntryKey → List ℕ → Result Bool AllocError → Payloads → Type 0
CacheInsertTransition m key payload (Ok true) n = (map.get m key ≡ None) × (n ≡ map.insert m key payload)
CacheInsertTransition m key payload (Ok false) n = IsSome (map.get m key) × (n ≡ m)
CacheInsertTransition m key payload (Err fault) n = (map.get m key ≡ None) × (n ≡ m)

-- `Held` if a write cache has the key. Else `Full` if the payload does not fit, with the active
-- cache's bytes and its limit. Else the payload is added, unless an allocation fails.
abbrev pub CacheAddTransition : CacheState → EntryKey → List ℕ → Result CacheAdd CacheFault → CacheState → Type 0
CacheAddTransition s key payload (Ok Held) t = IsSome (write_cached_payload s key) × (t ≡ s)
CacheAddTransition s key payload (Err (Full used limit)) t =
    (write_cached_payload s key ≡ None) × IsFull s payload × (used ≡ used_of s.active) × (limit ≡ s.limit) × (t ≡ s)
CacheAddTransition s key payload (Err Memory) t = (write_cached_payload s key ≡ None) × (¬ (IsFull s payload)) × (t ≡ s)
CacheAddTransition s key payload (Ok Taken) t = (write_cached_payload s key ≡ None) × (¬ (IsFull s payload)) × (t ≡ with_added s payload)
