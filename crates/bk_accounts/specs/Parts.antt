-- The stored numbers of one log's account and its ledgers' parts. Read `AreKept` first: the type
-- invariant of `LogAccount`.
use Rattle.std.specs.Prelude.{◌≡◌, ℕ, ◌+◌, ◌≤◌, ◌<◌, ◌^◌, Option, Some, None, IsSome, IfSome}
use Rattle.std.specs.FinMap as finmap
use Rattle.std.specs.List.{sum}
use Rattle.std.specs.Option.{unwrap_or}
use Rattle.std.specs.Ordering.{nat_cmp}

-- bytes of each ledger that has room
abbrev pub LedgerParts : Type 0
LedgerParts = finmap.FinMap nat_cmp ℕ

-- parts with the bytes counted last added to their ledger
abbrev pub with_last : LedgerParts → Option (ℕ × ℕ) → LedgerParts
with_last parts None = parts
with_last parts (Some last) = finmap.insert parts last.0 (unwrap_or (finmap.get parts last.0) 0 + last.1)

-- the ledger has room, and its part with the bytes counted last fits in 32 bits
pub record HasPart (parts : LedgerParts) (last : ℕ × ℕ) : Type 0 where
  pub there : IsSome (finmap.get parts last.0)
  pub fits : unwrap_or (finmap.get parts last.0) 0 + last.1 < 2 ^ 32

-- the parts add up to what remains, and no more remains than the total
pub record IsSplit (total remaining : ℕ) (parts : LedgerParts) : Type 0 where
  pub sum_is : remaining ≡ sum (finmap.values parts)
  pub within : remaining ≤ total

-- `IsSplit` holds of the parts with the bytes counted last, and their ledger has room
pub record AreKept (total remaining : ℕ) (parts : LedgerParts) (last : Option (ℕ × ℕ)) : Type 0 where
  pub split : IsSplit total remaining (with_last parts last)
  pub held : IfSome last (HasPart parts)
