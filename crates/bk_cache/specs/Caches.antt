-- The caches as contracts see them. Read `CacheState`, then `write_cached_payload` and
-- `cached_payload`: what the caches have for a key.
use Rattle.std.specs.Prelude.{◌≡◌, ℕ, ◌+◌, ◌<◌, List, [], length, sum_by, Option, Some, None, IsSome, option_map, unwrap_or, Ok, slice_get, filter, refl}
use Rattle.std.specs.Option.{option_or}
use Rattle.std.specs.Result.{result_unwrap_or}
use Rattle.std.specs.Ordering.{is_lt}
use Rattle.std.specs.Coded.{Coded, code_by, coded×, coded_list, coded_option, coded_ℕ}
use Rattle.std.specs.FinMap as map
use Rattle.bk_record.specs.Key.{EntryKey, key_cmp}
use Rattle.bk_record.specs.Record.{read_added}
use Rattle.bk_record.specs.Scan.{Payloads}
use Rattle.bk_record.specs.Keyed.{key_code, without_ledger}
use Rattle.bk_cache.specs.Recents.{Recents, Entry, recents_code, recent_of, without_recent}

-- Entries in memory. `flush` has the entries of a running flush, and is `None` if none runs.
-- `limit` is the greatest number of payload bytes of the active cache.
pub record CacheState : Type 0 where
  pub active : Payloads
  pub flush : Option Payloads
  pub recent : Recents
  pub limit : ℕ

abbrev pub payloads_code : Coded Payloads
payloads_code = map.code key_code (coded_list coded_ℕ)

abbrev pub cache_code : Coded CacheState
cache_code =
    code_by (Payloads × (Option Payloads × (Recents × ℕ))) (coded× payloads_code (coded× (coded_option payloads_code) (coded× recents_code coded_ℕ)))
    (λ s. (s.active, (s.flush, (s.recent, s.limit))))
    (λ p. record { active = p.0; flush = p.1.0; recent = p.1.1.0; limit = p.1.1.1 })
    (λ _. refl)

-- key of an accepted payload; no meaning for a refused one
abbrev pub added_key : List ℕ → EntryKey
added_key payload = result_unwrap_or (read_added payload) (record { ledger = 0; entry = 0 })

-- payload bytes of a cache
abbrev pub used_of : Payloads → ℕ
used_of m = sum_by length (map.values m)

-- the payload would exceed the limit of the active cache
abbrev pub IsFull : CacheState → List ℕ → Type 0
IsFull s payload = s.limit < used_of s.active + length payload

-- entries of a flush, none if none runs
abbrev pub entries_of_flush : Option Payloads → Payloads
entries_of_flush flush = unwrap_or flush map.empty

-- entries of the running flush
abbrev pub flush_of : CacheState → Payloads
flush_of s = entries_of_flush s.flush

-- payload of the key in one of the write caches
abbrev pub write_cached_payload : CacheState → EntryKey → Option (List ℕ)
write_cached_payload s key = option_or (map.get s.active key) (map.get (flush_of s) key)

-- payload that a read finds: in the active cache, else the flushing one, else the recent entries
abbrev pub cached_payload : CacheState → EntryKey → Option (List ℕ)
cached_payload s key = option_or (write_cached_payload s key) (recent_of s.recent key)

-- every payload is one that an add accepts, stored under its key
abbrev pub AllKeyed : Payloads → Type 0
AllKeyed m = (key : EntryKey) (payload : List ℕ) → map.get m key ≡ Some payload → read_added payload ≡ Ok key

-- first entry after a key in key order, or the first of all if there is no key
abbrev pub first_after : Option EntryKey → Payloads → Option Entry
first_after None m = slice_get (map.entries m) 0
first_after (Some key) m = slice_get (filter (λ e. is_lt (key_cmp key e.0)) (map.entries m)) 0

-- empty caches with this limit and room for `most` recent entries
abbrev pub new_caches : ℕ → ℕ → CacheState
new_caches limit most = record { active = map.empty; flush = None; recent = record { entries = []; most = most }; limit = limit }

-- caches after an accepted payload is added to the active one
abbrev pub with_added : CacheState → List ℕ → CacheState
with_added s payload = record s { active = map.insert s.active (added_key payload) payload }

-- caches without the entries of a ledger
abbrev pub without : CacheState → ℕ → CacheState
without s ledger = record s {
  active = without_ledger s.active ledger;
  flush = option_map (λ m. without_ledger m ledger) s.flush;
  recent = without_recent s.recent ledger;
}

-- no key is in both write caches
abbrev pub AreApart : CacheState → Type 0
AreApart s = (key : EntryKey) → IsSome (map.get s.active key) → map.get (flush_of s) key ≡ None
