-- Within the limits no log exceeds 2 ^ 32 - 1 bytes, the greatest position of a location.
use Rattle.std.specs.Prelude.{ℕ, ◌+◌, ◌<◌, ◌≤◌, ◌^◌}
use Rattle.std.proofs.Common.{arith}
use Rattle.bk_record.specs.Files.{header_length}
use Rattle.bk_record.specs.Limits.{max_added, max_log_limit}

-- a log within its limit is shorter than 2 ^ 32 bytes
pub ends_short : (end limit : ℕ) → end ≤ limit → limit ≤ max_log_limit → end < 2 ^ 32
ends_short end limit within allowed = omega (arith, within, allowed)

-- a log whose only record is that of an add is shorter than 2 ^ 32 bytes
pub first_ends_short : (size : ℕ) → size ≤ max_added → header_length + 4 + size < 2 ^ 32
first_ends_short size most = omega (arith, most)
