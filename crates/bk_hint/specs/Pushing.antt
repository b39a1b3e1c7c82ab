-- When a record can stand behind the entries of a log.
use Rattle.std.specs.Prelude.{ℕ, ◌+◌, ◌<◌, ◌≤◌, ◌^◌, List}
use Rattle.bk_hint.specs.declared.listed.Listed.{Listed}
use Rattle.bk_hint.specs.Entries.{past, last_of, origin}

-- Its payload has 16 to 2 ^ 31 - 1 bytes. It stands behind the last record, and ends at byte
-- 2 ^ 32 - 1 at the latest.
pub record CanStand (entries : List Listed) (at size : ℕ) : Type 0 where
  pub least : 20 ≤ size
  pub most : size < 2 ^ 31 + 4
  pub behind : past (last_of origin entries) ≤ at
  pub ends : at + size < 2 ^ 32 + 4
