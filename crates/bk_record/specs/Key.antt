-- The key of an entry.
use Rattle.std.specs.Prelude.{ℕ}
use Rattle.std.specs.declared.cmp.Ordering.{Ordering}
use Rattle.std.specs.Ordering.{nat_cmp, ordering_then}

-- ledger id and entry id; a `Key` has ids from 0 to 2 ^ 63 - 1 (project rule)
pub record EntryKey : Type 0 where
  pub ledger : ℕ
  pub entry : ℕ

-- order by ledger, then entry
abbrev pub key_cmp : EntryKey → EntryKey → Ordering
key_cmp a b = ordering_then (nat_cmp a.ledger b.ledger) (nat_cmp a.entry b.entry)
