-- A scan of a part of a log: its entries in order, then the end or a bad length. Read `Scan`, then
-- `ScanNextTransition`: the contract of `next`.
use Rattle.std.specs.Prelude.{◌≡◌, ℕ, ◌+◌, ◌≤◌, Bool, true, false, ◌&&◌, not, IsTrue, List, length, Option, Some, None, is_none, ◌*◌, ◌<◌, ◌^◌, Result, Ok, Err}
use Rattle.std.specs.Prelude.{slice_get}
use Rattle.bk_record.specs.Body.{Body, IsBadAt}
use Rattle.bk_record.specs.Piece.{BeginsWith}
use Rattle.bk_log.specs.declared.fault.ScanFault.{ScanFault}
use Rattle.bk_log.specs.declared.fault.ScanFault.TheVariants.{BadLength, Disk, Memory, Odd}
use Rattle.bk_log.specs.declared.found.Found.{Found}
use Rattle.bk_record.specs.Spelling.{all_pieces, all_leftover}
use Rattle.bk_log.specs.Places.{HasEntryAt}
use Rattle.bk_log.specs.Ranges.{IsPassed, entries_in, foreign_in, part}

-- The part: its first position and its end in the log with these bytes, and whether the view is
-- honest and sound. The progress: bytes left, entries given, foreign records passed, torn bytes at
-- the end, whether the end was reached, and the error that ended the scan.
pub record Scan : Type 0 where
  pub from : ℕ
  pub end : ℕ
  pub file : List ℕ
  pub honest : Bool
  pub sound : Bool
  pub left : ℕ
  pub given : ℕ
  pub foreign : ℕ
  pub torn : ℕ
  pub ended : Bool
  pub fault : Option ScanFault

-- the scan has neither reached the end nor met an error
abbrev pub is_going : Scan → Bool
is_going s = not s.ended && is_none s.fault

-- bytes of the part
abbrev pub part_of : Scan → List ℕ
part_of s = part s.file s.from s.end

-- The next entry of the part, in order. It is in the log; it and all before it are passed, with
-- `foreign` foreign records.
pub record IsGiven (s : Scan) (found : Found) (foreign : ℕ) : Type 0 where
  pub payload : List ℕ
  pub listed : slice_get (entries_in s.from (part_of s)) s.given ≡ Some (found.at, payload)
  pub stands : HasEntryAt s.file found.at found.key payload
  pub sized : found.size ≡ 4 + length payload
  pub passed : IsPassed s.from (part_of s) (found.at + length payload) (part s.file (found.at + length payload) s.end) (s.given + 1) foreign

-- all entries were given, the part parses to its end, and the counts are its
pub record IsFinished (s : Scan) : Type 0 where
  pub given : s.given ≡ length (entries_in s.from (part_of s))
  pub spelled : Body s.from (part_of s) (all_pieces s.from (part_of s)) (all_leftover (part_of s))
  pub foreign : s.foreign ≡ foreign_in s.from (part_of s)
  pub torn : s.torn ≡ length (all_leftover (part_of s))

-- Errors of a scan on an honest view. A bad length exactly if the part has one, after all its
-- entries. `Memory` only at the part's first record, which is whole.
abbrev pub ScanFails : Scan → ScanFault → Type 0
ScanFails s (BadLength at value) = (s.given ≡ length (entries_in s.from (part_of s))) × IsBadAt s.from (part_of s) at value
ScanFails s Disk = Unit {0}
ScanFails s Memory = (s.given ≡ 0) × ((s.foreign ≡ 0) × ((payload : List ℕ) × BeginsWith (part_of s) payload))
ScanFails s Odd = ⊥

-- `next`, on an honest view
abbrev pub ScanNextTransition : Scan → Result (Option Found) ScanFault → Scan → Type 0
ScanNextTransition s (Ok (Some found)) s' = IsGiven s found s'.foreign
ScanNextTransition s (Ok None) s' = IsFinished s'
ScanNextTransition s (Err fault) s' = ScanFails s' fault

-- An entry found in the part: its record has at least 20 bytes and begins in the part. After it are
-- the bytes that are left now, fewer by at least its size.
pub record IsWithin (s : Scan) (found : Found) (left : ℕ) : Type 0 where
  pub long : 20 ≤ found.size
  pub begins : s.from + 4 ≤ found.at
  pub ends : found.at + found.size + left ≡ s.end + 4
  pub fewer : left + found.size ≤ s.left

-- effect of `next` on any view
abbrev pub NextMoves : Scan → Result (Option Found) ScanFault → Scan → Type 0
NextMoves s (Ok (Some found)) s' = IsTrue (is_going s) × IsWithin s found s'.left
    × (s' ≡ record s { left = s'.left; given = s.given + 1; foreign = s'.foreign })
NextMoves s (Ok None) s' = (s.fault ≡ None) × (s' ≡ record s { left = s'.left; foreign = s'.foreign; torn = s'.torn; ended = true })
NextMoves s (Err fault) s' = s' ≡ record s { left = s'.left; foreign = s'.foreign; fault = Some fault }

-- pieces without an entry were passed: the scan stopped with an error, is at the end, or continues
abbrev pub PassedOver : Option ScanFault → Bool → Scan → Scan → Type 0
PassedOver (Some fault) ended s s' = s' ≡ record s { left = s'.left; foreign = s'.foreign; fault = Some fault }
PassedOver None true s s' = s' ≡ record s { left = s'.left; foreign = s'.foreign; torn = s'.torn; ended = true }
PassedOver None false s s' = s' ≡ record s { left = s'.left; foreign = s'.foreign }

-- one step, on any view: an entry, or a piece that is passed and leaves fewer bytes or ends the
-- scan
abbrev pub StepMoves : Scan → Option Found → Scan → Type 0
StepMoves s (Some found) s' = NextMoves s (Ok (Some found)) s'
StepMoves s None s' = PassedOver s'.fault s'.ended s s' × (s'.left ≤ s.left) × (IsTrue (is_going s') → s'.left < s.left)

-- no entry was given since, and a stopped scan is unchanged
pub record IsStillScan (s s' : Scan) : Type 0 where
  pub passed : PassedOver s'.fault s'.ended s s'
  pub fewer : s'.left ≤ s.left
  pub stopped : ¬ (IsTrue (is_going s)) → s' ≡ s

-- invariant of the numbers: the position is in the part, and every record has at least 20 bytes
pub record IsInPart (from end at given foreign : ℕ) : Type 0 where
  pub begun : from ≤ at
  pub within : at ≤ end
  pub room : from + 20 * (given + foreign) ≤ at
  pub end_fits : end < 2 ^ 64

-- invariant on an honest view: the whole records before the position were given or passed, and the
-- end of the scan is that of the part
pub record HasComeTo (s : Scan) (at : ℕ) (here : List ℕ) : Type 0 where
  pub passed : IsPassed s.from (part_of s) at here s.given s.foreign
  pub finished : s.ended ≡ true → IsFinished s
  pub stopped : (fault : ScanFault) → s.fault ≡ Some fault → ScanFails s fault
