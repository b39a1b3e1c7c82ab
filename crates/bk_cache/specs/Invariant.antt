-- Type invariants of the caches. Read `IsSound` first.
use Rattle.std.specs.Prelude.{◌≡◌, ℕ, ◌≤◌, List, length, sum_by, Some, Ok, IsTrue}
use Rattle.std.specs.Map.{values_of}
use Rattle.std.specs.FinMap.{find, is_sorted}
use Rattle.bk_record.specs.Key.{EntryKey, key_cmp}
use Rattle.bk_record.specs.Limits.{max_cache_limit}
use Rattle.bk_record.specs.Record.{read_added}
use Rattle.bk_cache.specs.Recents.{Entry}
use Rattle.bk_cache.specs.Caches.{CacheState, used_of, flush_of, AllKeyed, AreApart}

-- of `Cache`: the pairs are sorted by key, each payload is stored under its key, `len` is their
-- number, and `used` is the sum of their sizes
pub record KeepsPairs (pairs : List Entry) (len used : ℕ) : Type 0 where
  pub sorted : IsTrue (is_sorted key_cmp pairs)
  pub keyed : (key : EntryKey) (payload : List ℕ) → find key_cmp key pairs ≡ Some payload → read_added payload ≡ Ok key
  pub numbered : len ≡ length pairs
  pub counted : used ≡ sum_by length (values_of pairs)

-- Of `Caches`, before and after every call: each write cache is within the limit, no key is in
-- both, and each payload is stored under its key.
pub record IsSound (s : CacheState) : Type 0 where
  pub within : used_of s.active ≤ s.limit
  pub flush_within : used_of (flush_of s) ≤ s.limit
  pub limited : s.limit ≤ max_cache_limit
  pub apart : AreApart s
  pub keyed : AllKeyed s.active
  pub flush_keyed : AllKeyed (flush_of s)
