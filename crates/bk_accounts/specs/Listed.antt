-- The rooms of all open logs in one list, by ledger.
use Rattle.std.specs.Prelude.{◌≡◌, ℕ}
use Rattle.std.specs.BTreeSet.{BTreeSet, contains}
use Rattle.std.specs.declared.cmp.Ordering.{Ordering}
use Rattle.std.specs.Ordering.{nat_cmp, ordering_then}
use Rattle.bk_accounts.specs.Book.{Book, is_ready}

-- order of rooms: by ledger, then by log
abbrev pub room_cmp : ℕ × ℕ → ℕ × ℕ → Ordering
room_cmp a b = ordering_then (nat_cmp a.0 b.0) (nat_cmp a.1 b.1)

-- type invariant of `Accounts`: a ledger and a log are listed exactly if the ledger has room in the
-- log
abbrev pub AreListedRooms : Book → BTreeSet (ℕ × ℕ) → Type 0
AreListedRooms book rooms = (log ledger : ℕ) → contains room_cmp rooms (ledger, log) ≡ is_ready book log ledger
