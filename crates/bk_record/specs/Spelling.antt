-- Theorem: bytes parse as a body in one way, or they are bad at one position (`IsReadOneWay`).
use Rattle.std.specs.Prelude.{◌≡◌, ℕ, ◌+◌, ◌-◌, ◌<◌, ℤ, List, length, slice_index, ◌⊎◌}
use Rattle.bk_record.specs.Record.{signed_field}
use Rattle.bk_record.specs.Body.{Body, IsBadAt, pieces, leftover}

-- every number is below 256
abbrev pub IsBytes : List ℕ → Type 0
IsBytes bytes = (i : ℕ) → slice_index bytes i < 256

-- all records of the bytes from a position on, computed
abbrev pub all_pieces : ℕ → List ℕ → List (ℕ × List ℕ)
all_pieces from bytes = pieces (length bytes) from bytes

-- bytes after them, computed
abbrev pub all_leftover : List ℕ → List ℕ
all_leftover bytes = leftover (length bytes) bytes

-- Either the bytes are a body with exactly the computed records and rest, or they are bad at the
-- start of the computed rest, with the length that is there.
pub record IsReadOneWay (from : ℕ) (bytes : List ℕ) : Type 0 where
  pub spelled_or_bad : Body from bytes (all_pieces from bytes) (all_leftover bytes)
      ⊎ IsBadAt from bytes (from + (length bytes - length (all_leftover bytes))) (signed_field (all_leftover bytes))
  pub one_spelling : (records : List (ℕ × List ℕ)) (rest : List ℕ) → Body from bytes records rest
      → (records ≡ all_pieces from bytes) × (rest ≡ all_leftover bytes)
  pub one_place : (at : ℕ) (value : ℤ) → IsBadAt from bytes at value
      → (at ≡ from + (length bytes - length (all_leftover bytes))) × (value ≡ signed_field (all_leftover bytes))
  pub never_both : (records : List (ℕ × List ℕ)) (rest : List ℕ) (at : ℕ) (value : ℤ)
      → Body from bytes records rest → IsBadAt from bytes at value → ⊥
