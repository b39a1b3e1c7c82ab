-- Decimal numbers as scripts and command lines have them. A word with a sign or a leading zero is
-- not a number.
use Rattle.std.specs.Prelude.{◌≡◌, ℕ, ◌<◌, ◌⊎◌, List, length, slice_index}

-- the word begins with a plus sign, or with a zero that is not its only character
abbrev pub HasOddStart : List ℕ → Type 0
HasOddStart word = (slice_index word 0 ≡ 43) ⊎ ((slice_index word 0 ≡ 48) × (1 < length word))
