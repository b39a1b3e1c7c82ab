-- Runs of keys: one ledger, consecutive entry ids, and places in one log at an even distance.
use Rattle.std.specs.Prelude.{ℕ, zero, suc, ◌+◌, ◌*◌, List, [], ◌∷◌}
use Rattle.std.specs.FinMap as map
use Rattle.std.specs.FinMap.{put}
use Rattle.bk_record.specs.Key.{EntryKey, key_cmp}
use Rattle.bk_record.specs.Location.{Place}
use Rattle.bk_record.specs.Keyed.{Places}

-- key of the next entry of the ledger
abbrev pub key_behind : EntryKey → EntryKey
key_behind key = record { ledger = key.ledger; entry = key.entry + 1 }

-- place so many bytes behind another
abbrev pub place_behind : Place → ℕ → Place
place_behind place size = record { log = place.log; at = place.at + size }

-- Sets the places of so many keys, in order: of this key to this place, and of each next one to the
-- place so many bytes behind.
abbrev pub with_run : Places → EntryKey → Place → ℕ → ℕ → Places
with_run index key place size zero = index
with_run index key place size (suc count) =
    with_run (map.insert index key place) (key_behind key) (place_behind place size) size count

-- the key so many entries behind the first of a run, and its place
abbrev pub key_of_run : EntryKey → ℕ → EntryKey
key_of_run key done = record { ledger = key.ledger; entry = key.entry + done }

abbrev pub place_of_run : Place → ℕ → ℕ → Place
place_of_run place size done = record { log = place.log; at = place.at + done * size }

-- pairs of so many keys of a run, in order
abbrev pub pairs_of_run : EntryKey → Place → ℕ → ℕ → List (EntryKey × Place)
pairs_of_run key place size zero = []
pairs_of_run key place size (suc count) = (key, place) ∷ pairs_of_run (key_behind key) (place_behind place size) size count

-- cells of so many keys of a run in a packed page, from this offset on
abbrev pub cells_of_run : ℕ → Place → ℕ → ℕ → List (ℕ × Place)
cells_of_run offset place size zero = []
cells_of_run offset place size (suc count) = (offset, place) ∷ cells_of_run (offset + 1) (place_behind place size) size count

-- sorted pairs with those of so many keys of a run put in, in order
abbrev pub put_run : List (EntryKey × Place) → EntryKey → Place → ℕ → ℕ → List (EntryKey × Place)
put_run pairs key place size zero = pairs
put_run pairs key place size (suc count) =
    put_run (put key_cmp key place pairs) (key_behind key) (place_behind place size) size count
