-- The logical contents of a store: entries of live ledgers in files and caches.
use Rattle.std.specs.Prelude.{◌≡◌, Bool, ◌||◌, is_some, Option, None, List, ℕ, if◌then◌else◌, IsTrue}
use Rattle.std.specs.Option.{option_or}
use Rattle.std.specs.FinMap as finite
use Rattle.std.specs.FinSet as set
use Rattle.bk_record.specs.Key.{EntryKey}
use Rattle.bk_record.specs.Scan.{Payloads, scan_of}
use Rattle.bk_cache.specs.Caches as caches
use Rattle.bk_store.specs.State.{State}

-- what the write caches have of a key
abbrev pub written_at : State → EntryKey → Option (List ℕ)
written_at s key = caches.write_cached_payload s.caches key

-- what a read finds in memory: in the write caches, else among the recent entries
abbrev pub cached_at : State → EntryKey → Option (List ℕ)
cached_at s key = caches.cached_payload s.caches key

-- whether a write cache or the index has the key
abbrev pub holds : State → EntryKey → Bool
holds s key = is_some (written_at s key) || is_some (finite.get s.index key)

-- The payload of a key: that in a write cache, else that of the scan of the files; none in a
-- deleted ledger.
abbrev pub contents_at : State → EntryKey → Option (List ℕ)
contents_at s key = if set.contains s.ledgers.dead key.ledger then None else option_or (written_at s key) (finite.get (scan_of s.files) key)

-- The map is the logical contents.
abbrev pub IsContents : Payloads → State → Type 0
IsContents map s = (key : EntryKey) → finite.get map key ≡ contents_at s key

-- Both states have the same logical contents.
abbrev pub SameContents : State → State → Type 0
SameContents s t = (key : EntryKey) → contents_at t key ≡ contents_at s key

-- the honesty of the disk is unchanged, and on an honest disk the logical contents are unchanged
pub record PreservesContents (s t : State) : Type 0 where
  pub honest : t.honest ≡ s.honest
  pub meaning : IsTrue s.honest → SameContents s t
