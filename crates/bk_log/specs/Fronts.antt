-- The start of bytes: a record, fewer bytes than one needs, or a bad length. The contract of
-- `front_of`. Also records that a view knows, in a number of bytes.
use Rattle.std.specs.Prelude.{◌≡◌, ℕ, ◌+◌, ◌≤◌, ◌<◌, ◌*◌, ◌^◌, pos, ◌<ℤ◌, List, [], length, ◌⊎◌}
use Rattle.bk_record.specs.Record.{key_of, length_field, signed_field}
use Rattle.bk_record.specs.Body.{IsTorn}
use Rattle.bk_record.specs.Piece.{BeginsWith}
use Rattle.bk_disk.specs.declared.record_run.RecordRun.{RecordRun}
use Rattle.bk_log.specs.declared.front.Front.{Front}
use Rattle.bk_log.specs.declared.front.Front.TheVariants.{Record, Rest, Bad}

-- one of three cases, for any bytes
abbrev pub IsFront : List ℕ → Front → Type 0
IsFront bytes (Record size key) = (payload : List ℕ) × (BeginsWith bytes payload × ((size ≡ 4 + length payload) × (key ≡ key_of payload)))
IsFront bytes Rest = IsTorn bytes ⊎ (bytes ≡ [])
IsFront bytes (Bad value) = (4 ≤ length bytes) × ((value ≡ signed_field bytes) × ((value <ℤ pos 16) × (length_field bytes < 2 ^ 32)))

-- a record is within `left` bytes, and has a length field and two ids
abbrev pub FitsIn : ℕ → Front → Type 0
FitsIn left (Record size key) = (20 ≤ size) × (size ≤ left)
FitsIn left Rest = Unit {0}
FitsIn left (Bad value) = Unit {0}

-- the first record of a run is within `left` bytes, and has a length of the format and two ids
pub record HasWholeFirst (left : ℕ) (run : RecordRun) : Type 0 where
  pub some : 0 < run.count
  pub long : 20 ≤ run.size
  pub legal : run.size < 2 ^ 31 + 4
  pub within : run.size ≤ left
  pub ledger : run.first.ledger < 2 ^ 63
  pub entry : run.first.entry < 2 ^ 63

-- all records of a run have this size in bytes and are within `left` bytes, each with an entry id
-- below 2 ^ 63
pub record IsWholeRun (left : ℕ) (run : RecordRun) (size : ℕ) : Type 0 where
  pub sum : size ≡ run.count * run.size
  pub within : size ≤ left
  pub ids : run.first.entry + run.count ≤ 2 ^ 63
