-- Numbers of a simulation: shares, times of the lock rounded down, and memory. All numbers have 64
-- bits, and a greater one counts as the greatest.
use Rattle.std.specs.Prelude.{◌≡◌, ℕ, ◌<◌, ◌≤◌, ◌+◌, ◌-◌, ◌*◌, ◌/◌, ◌^◌, ◌==◌, min, max, if◌then◌else◌}

abbrev pub in_64_bits : ℕ → ℕ
in_64_bits n = min n (2 ^ 64 - 1)

-- a part of a whole in thousandths, rounded down; 0 if there is no whole
abbrev pub thousandths_of : ℕ → ℕ → ℕ
thousandths_of part whole = if whole == 0 then 0 else in_64_bits (part * 1000 / whole)

-- `rounded` has the first seven binary digits of `number`, and zeros for the others
abbrev pub HasSevenDigits : ℕ → ℕ → Type 0
HasSevenDigits number rounded = (zeros : ℕ) × (rounded ≡ number / 2 ^ zeros * 2 ^ zeros)
    × (number / 2 ^ zeros < 128) × (0 < zeros → 64 ≤ number / 2 ^ zeros)

-- the bytes of memory of a key in the index, if a ledger has this many keys
abbrev pub key_bytes : ℕ → ℕ
key_bytes keys = 15 + min (6144 / max keys 1) 85

-- the real bytes of simulated ones: a record of `size` bytes is one unit, and other bytes count
-- as they are
abbrev pub real_bytes : ℕ → ℕ → ℕ → ℕ → ℕ
real_bytes size unit records others = in_64_bits (in_64_bits (records / max size 1 * unit) + others)
