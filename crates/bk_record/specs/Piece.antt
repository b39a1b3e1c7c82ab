-- The piece at a position of an entry log's bytes: the contract of `read_record`.
use Rattle.std.specs.Prelude.{◌≡◌, ℕ, ◌+◌, ◌≤◌, pos, ◌<ℤ◌, List, [], ◌++◌, length, drop, IsSome, IsNone}
use Rattle.bk_record.specs.Record.{record_of, IsPayload, key_of, signed_field}
use Rattle.bk_record.specs.Body.{IsTorn}
use Rattle.bk_record.specs.declared.piece.Piece.{Piece}
use Rattle.bk_record.specs.declared.piece.Piece.TheVariants.{Whole, Foreign, Torn, Bad, End}

-- the bytes begin with the record of this payload
pub record BeginsWith (bytes payload : List ℕ) : Type 0 where
  pub legal : IsPayload payload
  pub behind : List ℕ
  pub is : bytes ≡ record_of payload ++ behind

-- one of five cases, for any bytes
abbrev pub IsPieceAt : List ℕ → ℕ → Piece → Type 0
IsPieceAt bytes at (Whole from to) = (payload : List ℕ)
    × (BeginsWith (drop at bytes) payload × (IsSome (key_of payload) × ((from ≡ at + 4) × (to ≡ at + 4 + length payload))))
IsPieceAt bytes at (Foreign to) = (payload : List ℕ) × (BeginsWith (drop at bytes) payload × (IsNone (key_of payload) × (to ≡ at + 4 + length payload)))
IsPieceAt bytes at (Torn rest) = IsTorn (drop at bytes) × (rest ≡ length (drop at bytes))
IsPieceAt bytes at (Bad place value) = (place ≡ at) × ((4 ≤ length (drop at bytes)) × ((value ≡ signed_field (drop at bytes)) × (value <ℤ pos 16)))
IsPieceAt bytes at End = drop at bytes ≡ []
