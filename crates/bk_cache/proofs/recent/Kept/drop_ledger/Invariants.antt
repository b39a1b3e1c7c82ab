use Rattle.std.proofs.Common.{◌≡◌, not, ◌==◌}
use Rattle.std.specs.BTreeSet.{btree_set_len}
use Rattle.std.specs.List.{filter}
use Rattle.bk_cache.specs.Recents.{AreListedRecents}
use Rattle.bk_cache.proofs.recent.Kept.drop_ledger.Given as goal

-- loop invariant: the entries of other ledgers are unchanged, in the same order
abbrev pub invariant-loop-entry : goal.invariant-loop-entry
invariant-loop-entry l = AreListedRecents l.self-inside.entries.entries l.self-inside.pairs
    × (filter (λ e. not (e.0.ledger == l.ledger)) l.self-inside.entries.entries
    ≡ filter (λ e. not (e.0.ledger == l.ledger)) l.initial.self-inside.entries.entries)
    × (l.self-inside.entries.cap ≡ l.initial.self-inside.entries.cap)

abbrev pub decreases-loop-entry : goal.decreases-loop-entry
decreases-loop-entry l = btree_set_len l.self-inside.pairs
