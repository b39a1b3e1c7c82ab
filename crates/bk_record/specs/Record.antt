-- A record: the payload's length in four bytes, big-endian, then the payload, which begins with two
-- ids. Read `record_of` and `key_of` first.
use Rattle.std.specs.Prelude.{ℕ, ◌<◌, ◌≤◌, ◌^◌, ℤ, List, ◌++◌, length, take, drop, Bool, ◌&&◌, not, nat_lt}
use Rattle.std.specs.Prelude.{is_some, if◌then◌else◌, Option, Some, None, Result, Ok, Err}
use Rattle.std.specs.Int.{w32, w64, to_be_bytes, from_be_bytes, cast_signed}
use Rattle.std.specs.Option.{ok_or}
use Rattle.bk_record.specs.Key.{EntryKey}
use Rattle.bk_record.specs.Limits.{max_added}
use Rattle.bk_record.specs.declared.fault.RecordFault.{RecordFault}
use Rattle.bk_record.specs.declared.fault.RecordFault.TheVariants.{Short, Negative, TooLong}

-- record of a payload (BookKeeper entry log format)
unfoldable pub record_of : List ℕ → List ℕ
record_of payload = to_be_bytes w32 (length payload) ++ payload

-- payload that a record can have: 16 to 2 ^ 31 - 1 bytes
abbrev pub IsPayload : List ℕ → Type 0
IsPayload payload = (16 ≤ length payload) × (length payload < 2 ^ 31)

-- first four bytes as an unsigned length
unfoldable pub length_field : List ℕ → ℕ
length_field bytes = from_be_bytes w32 bytes

-- first four bytes as a signed length, as in the format
unfoldable pub signed_field : List ℕ → ℤ
signed_field bytes = cast_signed w32 (from_be_bytes w32 bytes)

-- ids of a payload, at its bytes 0 to 8 and 8 to 16, unsigned
unfoldable pub ledger_field : List ℕ → ℕ
ledger_field payload = from_be_bytes w64 (take 8 payload)

unfoldable pub entry_field : List ℕ → ℕ
entry_field payload = from_be_bytes w64 (take 8 (drop 8 payload))

-- key of a payload; none if an id is negative as a signed number (project rule)
unfoldable pub key_of : List ℕ → Option EntryKey
key_of payload = if nat_lt (ledger_field payload) (2 ^ 63) && nat_lt (entry_field payload) (2 ^ 63)
    then Some (record { ledger = ledger_field payload; entry = entry_field payload })
    else None

-- an id is negative, as in a batch of a ledgers map
abbrev pub is_foreign : List ℕ → Bool
is_foreign payload = not (is_some (key_of payload))

-- contract of the function `key_of`: the key, or the first error
unfoldable pub read_key : List ℕ → Result EntryKey RecordFault
read_key payload = if nat_lt (length payload) 16 then Err (Short (length payload)) else ok_or (key_of payload) Negative

-- `TooLong` if the length exceeds the limit of an add; an earlier error comes first
abbrev pub unless_too_long : ℕ → Result EntryKey RecordFault → Result EntryKey RecordFault
unless_too_long n (Ok key) = if nat_lt max_added n then Err (TooLong n) else Ok key
unless_too_long n (Err fault) = Err fault

-- contract of `check_add`
unfoldable pub read_added : List ℕ → Result EntryKey RecordFault
read_added payload = unless_too_long (length payload) (read_key payload)
