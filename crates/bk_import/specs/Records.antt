-- Records that follow one another, as an input has them.
use Rattle.std.specs.Prelude.{◌≡◌, ℕ, ◌≤◌, List, [], ◌++◌, length, flat_map, Option, Some, None}
use Rattle.std.specs.Io.KnownBytes.{Consumes, IsAtEnd}
use Rattle.bk_record.specs.Limits.{max_added}
use Rattle.bk_record.specs.Record.{record_of}

-- a payload that is added may have this length: 16 to 5,000,000 bytes
pub record IsAddedLength (n : ℕ) : Type 0 where
  pub least : 16 ≤ n
  pub most : n ≤ max_added

-- the records of these payloads, one after another
abbrev pub records : List (List ℕ) → List ℕ
records payloads = flat_map record_of payloads

-- no record of a payload of such a length begins the bytes
abbrev pub BeginsNoRecord : List ℕ → Type 0
BeginsNoRecord bytes = (payload rest : List ℕ) → IsAddedLength (length payload) → bytes ≡ record_of payload ++ rest → ⊥

-- A record was read, of a payload of such a length; or nothing, and the input is at its end.
abbrev pub ReadsRecord : Option (List ℕ) → Option (List ℕ) → Option (List ℕ) → Type 0
ReadsRecord (Some payload) before after = IsAddedLength (length payload) × Consumes before after (record_of payload)
ReadsRecord None before after = Consumes before after [] × IsAtEnd after
