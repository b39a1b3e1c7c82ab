-- Table of remainders of a divisor.
use Rattle.std.specs.Prelude.{ℕ, ◌<◌, List, slice_index}
use Rattle.bk_crc.specs.Division.{IsRemainder}

-- entry `byte` is the remainder of the eight bits of the byte, followed by 32 zeros
abbrev pub IsTable : ℕ → List ℕ → Type 0
IsTable divisor table = (byte : ℕ) → byte < 256 → IsRemainder divisor 8 byte (slice_index table byte)
