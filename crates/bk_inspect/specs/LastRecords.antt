-- The last record of each entry of a range, in the order of log, then position. Read `IsLastIn`.
use Rattle.std.specs.Prelude.{◌≡◌, ◌≢◌, ℕ, ◌+◌, ◌<◌, ◌≤◌, List, length, Option, Some, None, ◌⊎◌}
use Rattle.std.specs.Ordering.{nat_cmp}
use Rattle.std.specs.BTreeMap as tree
use Rattle.std.specs.BTreeMap.{BTreeMap}
use Rattle.bk_record.specs.Key.{EntryKey}
use Rattle.bk_record.specs.Location.{Place, Precedes}
use Rattle.bk_record.specs.Files.{In}
use Rattle.bk_record.specs.Latest.{AreInOrder}
use Rattle.bk_record.specs.Record.{key_of}
use Rattle.bk_inspect.specs.declared.command.EntryRange.{EntryRange}
use Rattle.bk_inspect.specs.declared.entries.Standing.{Standing}

-- an entry is in the range
abbrev pub IsInRange : EntryRange → ℕ → Type 0
IsInRange range entry = (range.first ≤ entry) × (entry ≤ range.last)

-- the key of an entry of the range's ledger
abbrev pub key_in : EntryRange → ℕ → EntryKey
key_in range entry = record { ledger = range.ledger; entry = entry }

-- where a record's payload begins
abbrev pub place_of : Standing → Place
place_of standing = record { log = standing.log; at = standing.found.at }

-- A record is the last one of an entry of the range in a list of records.
pub record IsLastIn (range : EntryRange) (records : List (Place × List ℕ)) (entry : ℕ) (standing : Standing) : Type 0 where
  pub payload : List ℕ
  pub asked : IsInRange range entry
  pub there : In (place_of standing, payload) records
  pub keyed : key_of payload ≡ Some (key_in range entry)
  pub sized : standing.found.size ≡ 4 + length payload
  pub last : (other : Place) (held : List ℕ) → In (other, held) records → key_of held ≡ Some (key_in range entry)
      → (other ≡ place_of standing) ⊎ Precedes other (place_of standing)

-- the last record of an entry of the range, if there is one
abbrev pub LastIn : EntryRange → List (Place × List ℕ) → ℕ → Option Standing → Type 0
LastIn range records entry (Some standing) = IsLastIn range records entry standing
LastIn range records entry None = IsInRange range entry → (place : Place) (payload : List ℕ) → In (place, payload) records
    → key_of payload ≢ Some (key_in range entry)

-- the last record of each entry of the range, if the records are in order
abbrev pub HasLast : EntryRange → BTreeMap ℕ Standing → List (Place × List ℕ) → Type 0
HasLast range last records = AreInOrder records → (entry : ℕ) → LastIn range records entry (tree.get nat_cmp last entry)

-- one more record of an entry: it takes the place of one of the same log or an earlier one
abbrev pub StandsAfter : Option Standing → Standing → Option Standing → Type 0
StandsAfter None standing now = now ≡ Some standing
StandsAfter (Some known) standing now = (known.log ≤ standing.log → now ≡ Some standing) × (standing.log < known.log → now ≡ Some known)

-- the same of a map by entry
pub record Notes (before : BTreeMap ℕ Standing) (entry : ℕ) (standing : Standing) (now : BTreeMap ℕ Standing) : Type 0 where
  pub here : StandsAfter (tree.get nat_cmp before entry) standing (tree.get nat_cmp now entry)
  pub others : (other : ℕ) → other ≢ entry → tree.get nat_cmp now other ≡ tree.get nat_cmp before other
