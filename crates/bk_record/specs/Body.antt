-- The body of an entry log: records one after another, up to bytes that are no whole record. Read
-- `Body` first; `pieces` and `leftover` compute the same (`Spelling.antt`).
use Rattle.std.specs.Prelude.{◌≡◌, ℕ, zero, suc, ◌+◌, ◌<◌, ◌≤◌, ◌^◌, ℤ, pos, ◌<ℤ◌, List, [], ◌∷◌, ◌++◌, length}
use Rattle.std.specs.Prelude.{take, drop, Bool, ◌&&◌, nat_lt, nat_le, if◌then◌else◌}
use Rattle.bk_record.specs.Record.{record_of, IsPayload, length_field, signed_field}

-- Fewer bytes than a record: one to three bytes, or a length of 16 or more without its whole
-- payload.
pub data IsTorn : List ℕ → Type 0 where
  short : {bytes : List ℕ} → 0 < length bytes → length bytes < 4 → IsTorn bytes
  cut : {bytes : List ℕ} → 4 ≤ length bytes → 16 ≤ length_field bytes → length_field bytes < 2 ^ 31
      → length bytes < 4 + length_field bytes → IsTorn bytes

-- The bytes from position `from` on are the records of these payloads and then `rest`. Each payload
-- has its position, which is after its length field (BookKeeper entry log format).
pub data Body : ℕ → List ℕ → List (ℕ × List ℕ) → List ℕ → Type 0 where
  done : {from : ℕ} → Body from [] [] []
  more : {from : ℕ} {payload behind rest : List ℕ} {records : List (ℕ × List ℕ)} → IsPayload payload
      → Body (from + 4 + length payload) behind records rest
      → Body from (record_of payload ++ behind) ((from + 4, payload) ∷ records) rest
  torn : {from : ℕ} {bytes : List ℕ} → IsTorn bytes → Body from bytes [] bytes

-- After whole records, at position `at`, there is a length below 16 as a signed number (project
-- rule).
pub record IsBadAt (from : ℕ) (bytes : List ℕ) (at : ℕ) (value : ℤ) : Type 0 where
  pub before : List ℕ
  pub field : List ℕ
  pub behind : List ℕ
  pub records : List (ℕ × List ℕ)
  pub bytes_are : bytes ≡ before ++ field ++ behind
  pub whole : Body from before records []
  pub four : length field ≡ 4
  pub value_is : value ≡ signed_field field
  pub below : value <ℤ pos 16
  pub place : at ≡ from + length before

-- the bytes begin with a whole record
unfoldable pub starts_with_record : List ℕ → Bool
starts_with_record bytes = nat_le 4 (length bytes)
    && (nat_le 16 (length_field bytes) && (nat_lt (length_field bytes) (2 ^ 31) && nat_le (4 + length_field bytes) (length bytes)))

-- whole records from a position, computed; the first number bounds how many are searched
abbrev pub pieces : ℕ → ℕ → List ℕ → List (ℕ × List ℕ)
pieces zero from bytes = []
pieces (suc most) from bytes = if starts_with_record bytes
    then (from + 4, take (length_field bytes) (drop 4 bytes)) ∷ pieces most (from + 4 + length_field bytes) (drop (4 + length_field bytes) bytes)
    else []

-- bytes after them
abbrev pub leftover : ℕ → List ℕ → List ℕ
leftover zero bytes = bytes
leftover (suc most) bytes = if starts_with_record bytes then leftover most (drop (4 + length_field bytes) bytes) else bytes
