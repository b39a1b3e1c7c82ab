use Rattle.std.proofs.Common.{◌≡◌}
use Rattle.std.specs.BTreeSet.{btree_set_len}
use Rattle.std.specs.FinMap.{from_entries}
use Rattle.bk_accounts.specs.Book.{after_forget}
use Rattle.bk_accounts.specs.Listed.{AreListedRooms}
use Rattle.bk_accounts.proofs.accounts.Accounts.forget.Given as goal

-- Loop invariant: all rooms are listed, and forgetting the ledger everywhere gives the same book.
abbrev pub invariant-loop-log : goal.invariant-loop-log
invariant-loop-log l = AreListedRooms (from_entries l.self-inside.logs.entries) l.self-inside.rooms
    × (after_forget (from_entries l.self-inside.logs.entries) l.ledger ≡ after_forget (from_entries l.initial.self-inside.logs.entries) l.ledger)

abbrev pub decreases-loop-log : goal.decreases-loop-log
decreases-loop-log l = btree_set_len l.self-inside.rooms
