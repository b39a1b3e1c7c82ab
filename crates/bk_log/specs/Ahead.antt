-- Reading ahead in a view: a position, and the number of bytes from there that are read.
-- `ShowsWindow` is the type invariant of `Window`.
use Rattle.std.specs.Prelude.{◌≡◌, ℕ, ◌-◌, ◌≤◌, ◌<◌, Bool, IsTrue, List, length, take, drop, Result, Ok, Err}
use Rattle.std.proofs.Common.{refl}
use Rattle.std.specs.Coded.{Coded, code_by, coded×, coded_ℕ, coded_bool, coded_list}
use Rattle.bk_record.specs.Piece.{BeginsWith}
use Rattle.bk_disk.specs.Blocks.{HasPrefix}
use Rattle.bk_log.specs.declared.fault.ScanFault.{ScanFault}
use Rattle.bk_log.specs.declared.fault.ScanFault.TheVariants.{BadLength, Disk, Memory, Odd}
use Rattle.bk_log.specs.declared.front.Front.{Front}
use Rattle.bk_log.specs.declared.front.Front.TheVariants.{Record, Rest, Bad}
use Rattle.bk_log.specs.Fronts.{IsFront}

-- position in a view, bytes of the view's log, whether the view is honest and sound, number of
-- bytes ready, and length of the buffer, 0 before it is allocated
pub record Ahead : Type 0 where
  pub at : ℕ
  pub bytes : List ℕ
  pub honest : Bool
  pub sound : Bool
  pub ready : ℕ
  pub room : ℕ

-- encoding as the tuple of the fields
abbrev pub ahead_code : Coded Ahead
ahead_code =
    code_by (ℕ × (List ℕ × (Bool × (Bool × (ℕ × ℕ)))))
    (coded× coded_ℕ (coded× (coded_list coded_ℕ) (coded× coded_bool (coded× coded_bool (coded× coded_ℕ coded_ℕ)))))
    (λ a. (a.at, (a.bytes, (a.honest, (a.sound, (a.ready, a.room))))))
    (λ p. record { at = p.0; bytes = p.1.0; honest = p.1.1.0; sound = p.1.1.1.0; ready = p.1.1.1.1.0; room = p.1.1.1.1.1 }) (λ _. refl)

-- on an honest view, the bytes after an offset are those from a position on
pub record ShowsAhead (honest : Bool) (bytes : List ℕ) (at offset : ℕ) (read : List ℕ) : Type 0 where
  pub within : offset ≤ length read
  pub shown : IsTrue honest → drop offset read ≡ take (length read - offset) (drop at bytes)

-- this holds of `offset` with the position, and of `start` with an earlier one
pub record ShowsWindow (honest : Bool) (bytes : List ℕ) (at offset since start : ℕ) (read : List ℕ) : Type 0 where
  pub ahead : ShowsAhead honest bytes at offset read
  pub begun : ShowsAhead honest bytes since start read

-- on an honest view, the bytes that it lent are those from a position on
abbrev pub ShowsLent : Bool → List ℕ → ℕ → List ℕ → Type 0
ShowsLent honest bytes from lent = IsTrue honest → HasPrefix (drop from bytes) lent

-- read of `n` bytes that are in an honest view
abbrev pub ReadsLeft : {T : Type 0} → List ℕ → ℕ → ℕ → Result T ScanFault → List ℕ → Type 0
ReadsLeft bytes at n (Ok _) out = out ≡ take n (drop at bytes)
ReadsLeft bytes at n (Err fault) out = fault ≡ Disk

-- Errors at a position with these bytes left: an honest view has what is in it, and `Memory` occurs
-- only without a buffer, at a whole record.
abbrev pub AheadFails : ℕ → List ℕ → ScanFault → Type 0
AheadFails room here (BadLength at length) = ⊥
AheadFails room here Disk = Unit {0}
AheadFails room here Memory = (room ≡ 0) × ((payload : List ℕ) × BeginsWith here payload)
AheadFails room here Odd = ⊥

-- result of parsing at the position, with these bytes left
abbrev pub ShowsFront : ℕ → List ℕ → Result Front ScanFault → Type 0
ShowsFront room here (Ok front) = IsFront here front
ShowsFront room here (Err fault) = AheadFails room here fault

-- the front is a record
abbrev pub IsRecord : Front → Type 0
IsRecord (Record size key) = Unit {0}
IsRecord Rest = ⊥
IsRecord (Bad value) = ⊥

-- after a record the buffer is allocated
abbrev pub HasRoomFor : ℕ → Front → Type 0
HasRoomFor room (Record size key) = 0 < room
HasRoomFor room Rest = Unit {0}
HasRoomFor room (Bad value) = Unit {0}
