-- CRC-32C as a function, and the checksum of a batch.
use Rattle.std.specs.Prelude.{◌≡◌, ℕ, zero, suc, ◌*◌, ◌/◌, ◌%◌, ◌^◌, ◌==◌, List, ◌++◌, length, bit_xor, if◌then◌else◌}
use Rattle.std.specs.Int.{w32, w64, to_be_bytes}
use Rattle.bk_crc.specs.declared.polynomial.Polynomial.TheVariants.{Castagnoli}
use Rattle.bk_crc.specs.Checksum.{generator, all_ones, dividend_of, IsChecksum}

-- what so many steps of the long division leave of a dividend
unfoldable pub left_after : ℕ → ℕ → ℕ
left_after zero word = word
left_after (suc steps) word = left_after steps (bit_xor (if word % 2 == 1 then generator Castagnoli else 0) word / 2)

-- CRC-32C, a number of 32 bits
unfoldable pub crc32c : List ℕ → ℕ
crc32c bytes = bit_xor all_ones (left_after (8 * length bytes) (dividend_of bytes)) % 2 ^ 32

-- it is the one checksum that bytes have by the definition of `bk_crc`
abbrev pub IsOneChecksum : Type 0
IsOneChecksum = (bytes : List ℕ) (checksum : ℕ) → IsChecksum Castagnoli bytes checksum → checksum ≡ crc32c bytes

-- Checksum of a batch: it covers the generation of the file, the place of the batch in the file, the
-- size of its body, and the bytes given, which are none or the body.
unfoldable pub checksum_of_batch : ℕ → ℕ → ℕ → List ℕ → ℕ
checksum_of_batch generation place size bytes =
    crc32c (to_be_bytes w64 generation ++ to_be_bytes w64 place ++ to_be_bytes w32 size ++ bytes)
