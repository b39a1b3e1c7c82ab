-- A frame read from a reader.
use Rattle.std.specs.Prelude.{◌≡◌, ℕ, ◌≤◌, Bool, true, false, List, ◌++◌, length, Option, Some, None}
use Rattle.std.specs.Int.{w32, from_be_bytes}
use Rattle.std.specs.Io.KnownBytes.{Consumes, IsAtEnd}

-- a length field was read: four bytes that give the length of a frame
pub record ReadsField (size : ℕ) (before after : Option (List ℕ)) : Type 0 where
  pub field : List ℕ
  pub four : length field ≡ 4
  pub says : size ≡ from_be_bytes w32 field
  pub least : 9 ≤ size
  pub most : size ≤ 5000064
  pub bytes : Consumes before after field

-- such a field, or the end of the input
abbrev pub ReadsLength : Option ℕ → Option (List ℕ) → Option (List ℕ) → Type 0
ReadsLength (Some size) before after = ReadsField size before after
ReadsLength None before after = IsAtEnd after

-- a length field was read, and then a frame of that length: an id and a kind at least, no more than
-- the longest frame
pub record ReadsWhole (before after : Option (List ℕ)) (frame : List ℕ) : Type 0 where
  pub field : List ℕ
  pub four : length field ≡ 4
  pub says : length frame ≡ from_be_bytes w32 field
  pub least : 9 ≤ length frame
  pub most : length frame ≤ 5000064
  pub bytes : Consumes before after (field ++ frame)

-- such a frame, or the end of the input
abbrev pub ReadsFrame : Bool → Option (List ℕ) → Option (List ℕ) → List ℕ → Type 0
ReadsFrame true before after frame = ReadsWhole before after frame
ReadsFrame false before after frame = IsAtEnd after
