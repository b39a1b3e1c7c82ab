use Rattle.std.proofs.Common.{◌≡◌}
use Rattle.std.specs.BTreeSet.{btree_set_len}
use Rattle.std.specs.FinMap.{from_entries}
use Rattle.bk_accounts.specs.Book.{after_drop}
use Rattle.bk_accounts.proofs.Listings.{AreLeft}
use Rattle.bk_accounts.proofs.accounts.Accounts.drop_log.Given as goal

-- Loop invariant: the log is removed from the book, and those of its rooms are listed that the
-- account still has.
abbrev pub invariant-loop-ledger : goal.invariant-loop-ledger
invariant-loop-ledger l = AreLeft (from_entries l.self-inside.logs.entries) l.log l.account l.self-inside.rooms
    × (from_entries l.self-inside.logs.entries ≡ after_drop l.fn.self l.log)

abbrev pub decreases-loop-ledger : goal.decreases-loop-ledger
decreases-loop-ledger l = btree_set_len l.self-inside.rooms
