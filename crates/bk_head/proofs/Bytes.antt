-- Numbers of four and eight bytes, big-endian: encoding and parsing are inverse.
use Rattle.std.proofs.Common.{◌≡◌, ℕ, ◌^◌, ◌<◌, ◌≤◌, List, ◌++◌, length, take, refl, sym, arith}
use Rattle.std.specs.Int.{w32, w64, to_be_bytes, from_be_bytes}
use Rattle.std.proofs.lemmas.List.{length-take, get_or-take}
use Rattle.std.proofs.lemmas.Nat.{be_bytes_4, be_bytes_8, from_be_bytes-to_be_bytes_4, from_be_bytes-to_be_bytes_8}
use Rattle.byteorder.specs.Endian.{big_number}
use Rattle.bk_record.specs.Spelling.{IsBytes}
use Rattle.bk_record.proofs.Records.{bytes_take}

-- `byteorder` reads the number of the definitions
pub big_number-4 : (bytes : List ℕ) → big_number 4 bytes ≡ from_be_bytes w32 bytes
big_number-4 bytes = omega arith

pub big_number-8 : (bytes : List ℕ) → big_number 8 bytes ≡ from_be_bytes w64 bytes
big_number-8 bytes = omega arith

pub from_be_bytes-take-4 : (bytes : List ℕ) → from_be_bytes w32 (take 4 bytes) ≡ from_be_bytes w32 bytes
from_be_bytes-take-4 bytes = rw (
  get_or-take 4 bytes 0 0 (omega arith),
  get_or-take 4 bytes 1 0 (omega arith),
  get_or-take 4 bytes 2 0
      (omega arith),
  get_or-take 4 bytes 3 0 (omega arith),
) refl

-- encoding the number of the first four bytes gives these bytes
pub front_4 : (bytes : List ℕ) → IsBytes bytes → 4 ≤ length bytes → to_be_bytes w32 (from_be_bytes w32 bytes) ≡ take 4 bytes
front_4 bytes each long = be_bytes_4 (take 4 bytes) (from_be_bytes w32 bytes) (omega (arith, length-take 4 bytes)) (bytes_take 4 bytes each)
    (sym (from_be_bytes-take-4 bytes))

pub below_4 : (bytes : List ℕ) → IsBytes bytes → from_be_bytes w32 bytes < 2 ^ 32
below_4 bytes each = omega (arith, each 0, each 1, each 2, each 3)

pub below_8 : (bytes : List ℕ) → IsBytes bytes → from_be_bytes w64 bytes < 2 ^ 64
below_8 bytes each = omega (arith, each 0, each 1, each 2, each 3, each 4, each 5, each 6, each 7)

pub from_be_bytes-take-8 : (bytes : List ℕ) → from_be_bytes w64 (take 8 bytes) ≡ from_be_bytes w64 bytes
from_be_bytes-take-8 bytes =
    rw (
      get_or-take 8 bytes 0 0 (omega arith),
      get_or-take 8 bytes 1 0 (omega arith),
      get_or-take 8 bytes 2 0 (omega arith),
      get_or-take 8 bytes 3 0
          (omega arith),
      get_or-take 8 bytes 4 0 (omega arith),
      get_or-take 8 bytes 5 0 (omega arith),
      get_or-take 8 bytes 6 0
          (omega arith),
      get_or-take 8 bytes 7 0 (omega arith),
    ) refl

pub front_8 : (bytes : List ℕ) → IsBytes bytes → 8 ≤ length bytes → to_be_bytes w64 (from_be_bytes w64 bytes) ≡ take 8 bytes
front_8 bytes each long = be_bytes_8 (take 8 bytes) (from_be_bytes w64 bytes) (omega (arith, length-take 8 bytes)) (bytes_take 8 bytes each)
    (sym (from_be_bytes-take-8 bytes))

-- parsing an encoded number gives the number, whatever follows it
pub again_4 : (n : ℕ) (rest : List ℕ) → n < 2 ^ 32 → from_be_bytes w32 (to_be_bytes w32 n ++ rest) ≡ n
again_4 n rest fits = from_be_bytes-to_be_bytes_4 n fits

pub again_8 : (n : ℕ) (rest : List ℕ) → n < 2 ^ 64 → from_be_bytes w64 (to_be_bytes w64 n ++ rest) ≡ n
again_8 n rest fits = from_be_bytes-to_be_bytes_8 n fits
