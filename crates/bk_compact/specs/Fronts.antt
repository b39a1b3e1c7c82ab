-- What stands at a position of the source log, and whether an entry is left from there on.
use Rattle.std.specs.Prelude.{◌≡◌, ◌⊎◌, ℕ, ℤ, pos, ◌<ℤ◌, ◌+◌, ◌≤◌, Bool, true, false, List, [], length, take, drop, Result, Ok, Err}
use Rattle.bk_record.specs.Record.{is_foreign, signed_field}
use Rattle.bk_record.specs.Body.{IsTorn}
use Rattle.bk_record.specs.Piece.{BeginsWith}
use Rattle.bk_compact.specs.declared.front.Front.{Front}
use Rattle.bk_compact.specs.declared.front.Front.TheVariants.{Entry, Foreign, Rest}
use Rattle.bk_compact.specs.declared.scanning.Unread.{Unread}
use Rattle.bk_compact.specs.declared.scanning.Unread.TheVariants.{Disk, Odd}

-- The front of bytes: a record with a key, a foreign one, or fewer bytes than a record needs. `Odd`
-- is a length below 16, as a signed number.
abbrev pub ShowsFront : List ℕ → Result Front Unread → Type 0
ShowsFront bytes (Ok Entry) = (payload : List ℕ) × BeginsWith bytes payload × (is_foreign payload ≡ false)
ShowsFront bytes (Ok (Foreign size)) = (payload : List ℕ) × BeginsWith bytes payload × (is_foreign payload ≡ true) × (size ≡ 4 + length payload)
ShowsFront bytes (Ok Rest) = IsTorn bytes ⊎ (bytes ≡ [])
ShowsFront bytes (Err Disk) = Unit {0}
ShowsFront bytes (Err Odd) = (value : ℤ) × (4 ≤ length bytes) × (value ≡ signed_field bytes) × (value <ℤ pos 16)

-- read of `n` bytes that are in an honest view
abbrev pub ReadsHead : {T : Type 0} → List ℕ → ℕ → ℕ → Result T Unread → List ℕ → Type 0
ReadsHead bytes at n (Ok _) out = out ≡ take n (drop at bytes)
ReadsHead bytes at n (Err unread) out = unread ≡ Disk

-- a foreign record is within `left` bytes, and has a length field and two ids
abbrev pub FitsIn : ℕ → Front → Type 0
FitsIn left Entry = Unit {0}
FitsIn left (Foreign size) = (20 ≤ size) × (size ≤ left)
FitsIn left Rest = Unit {0}

-- whether none of these entries is left, on an honest view
abbrev pub TellsEnd : List (ℕ × List ℕ) → Result Bool Unread → Type 0
TellsEnd entries (Ok true) = entries ≡ []
TellsEnd entries (Ok false) = ¬ (entries ≡ [])
TellsEnd entries (Err Disk) = Unit {0}
TellsEnd entries (Err Odd) = ⊥
