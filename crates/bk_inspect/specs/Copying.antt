-- Copying a log aside: what is at the place of the copy, and what takes that place. Read `HasAside` first.
use Rattle.std.specs.Prelude.{◌≡◌, ℕ, ◌+◌, ◌≤◌, ◌↔◌, Bool, IsTrue, List, length, take, drop, Result, Ok, Err, ◌⊎◌}
use Rattle.std.specs.FinMap as map
use Rattle.bk_record.specs.Files.{Files}
use Rattle.bk_disk.specs.Disk.{IsFile, files_after_append}
use Rattle.bk_inspect.specs.Reading.{OfFile}
use Rattle.bk_inspect.specs.declared.aside.CopyFault.{CopyFault}
use Rattle.bk_inspect.specs.declared.aside.CopyFault.TheVariants.{Taken, Blocked, Broken}
use Rattle.bk_inspect.specs.declared.aside.Standing.{Standing}
use Rattle.bk_inspect.specs.declared.aside.Standing.TheVariants.{Part, More, Other}
use Rattle.bk_inspect.specs.declared.fault.DirFault.{DirFault}

-- bytes begin with others
abbrev pub IsFrontOf : List ℕ → List ℕ → Type 0
IsFrontOf front bytes = take (length front) bytes ≡ front

-- All bytes of a log are in its copy, first of all, and so is every byte of the copy that was there. The copy has nothing else: it
-- is the log, or what was there.
pub record HasAside (copies : Files) (log : ℕ) (file : List ℕ) (copies' : Files) : Type 0 where
  pub copy : List ℕ
  pub now : copies' ≡ map.insert copies log copy
  pub holds : IsFrontOf file copy
  pub stood : (old : List ℕ) → IsFile copies log old → IsFrontOf old copy
  pub is : (copy ≡ file) ⊎ IsFile copies log copy

-- the copies unchanged, or all bytes of the log in its copy
abbrev pub LeavesCopies : Files → Files → ℕ → Files → Type 0
LeavesCopies files copies log copies' = (copies' ≡ copies) ⊎ OfFile files log (λ file. HasAside copies log file copies')

-- A copy is there that is not of this log: neither has it the log's first bytes alone, nor all of them first.
abbrev pub IsOther : Files → ℕ → List ℕ → Type 0
IsOther copies log file = OfFile copies log (λ old. ¬ (IsFrontOf old file) × ¬ (IsFrontOf file old))

-- ---- comparing

-- bytes of a log from a position on
abbrev pub IsPieceOf : Files → ℕ → ℕ → ℕ → List ℕ → Type 0
IsPieceOf files log at n bytes = OfFile files log (λ file. (at + n ≤ length file) × (bytes ≡ take n (drop at file)))

-- whether a log and its copy have the same bytes there
abbrev pub PiecesAgree : Files → Files → ℕ → ℕ → ℕ → Bool → Type 0
PiecesAgree files copies log at n same = OfFile files log (λ file. OfFile copies log (λ copy.
    IsTrue same ↔ (take n (drop at file) ≡ take n (drop at copy))))

-- whether their first bytes are the same
abbrev pub BeginAlike : Files → Files → ℕ → ℕ → Bool → Type 0
BeginAlike files copies log n same = (file copy : List ℕ) → IsFile files log file → IsFile copies log copy
    → n ≤ length file → n ≤ length copy → IsTrue same ↔ (take n file ≡ take n copy)

-- what is at the place of the copy of a log of n bytes
abbrev pub StandsAs : Files → Files → ℕ → ℕ → Standing → Type 0
StandsAs files copies log n Part = (file old : List ℕ) → IsFile files log file → n ≡ length file → IsFile copies log old → IsFrontOf old file
StandsAs files copies log n More = OfFile copies log (λ old. (file : List ℕ) → IsFile files log file → n ≡ length file → IsFrontOf file old)
StandsAs files copies log n Other = (file : List ℕ) → IsFile files log file → n ≡ length file → IsOther copies log file

-- ---- writing

-- `keep`: the draft takes the place of the copy; it may have done so if the call fails
abbrev pub KeepsDraft : {T F : Type 0} → Files → Files → ℕ → Result T F → Files → Type 0
KeepsDraft copies drafts log (Ok _) copies' = OfFile drafts log (λ draft. copies' ≡ map.insert copies log draft)
KeepsDraft copies drafts log (Err _) copies' = (copies' ≡ copies) ⊎ OfFile drafts log (λ draft. copies' ≡ map.insert copies log draft)

-- bytes of a log from a position on at the end of a draft; some bytes if the call fails
abbrev pub CopiesPiece : Files → Files → ℕ → ℕ → ℕ → Result (Unit {0}) DirFault → Files → Type 0
CopiesPiece files drafts log at n (Ok _) drafts' =
    OfFile files log (λ file. (at + n ≤ length file) × (drafts' ≡ files_after_append drafts log (take n (drop at file))))
CopiesPiece files drafts log at n (Err fault) drafts' = (piece : List ℕ) × (drafts' ≡ files_after_append drafts log piece)

-- all bytes of a log at the end of a draft; some bytes if the call fails
abbrev pub CopiesBytes : Files → Files → ℕ → ℕ → Result (Unit {0}) DirFault → Files → Type 0
CopiesBytes files drafts log n (Ok _) drafts' = (file : List ℕ) → IsFile files log file → n ≡ length file → drafts' ≡ files_after_append drafts log file
CopiesBytes files drafts log n (Err fault) drafts' = (piece : List ℕ) × (drafts' ≡ files_after_append drafts log piece)

-- all bytes of a log, of which there are n, are its copy
abbrev pub IsCopied : Files → Files → ℕ → ℕ → Files → Type 0
IsCopied files copies log n copies' = (file : List ℕ) → IsFile files log file → n ≡ length file → copies' ≡ map.insert copies log file

-- the same of a draft that is filled and kept; the copies may be unchanged if the call fails
abbrev pub FillsAndKeeps : Files → Files → ℕ → ℕ → Result (Unit {0}) DirFault → Files → Type 0
FillsAndKeeps files copies log n (Ok _) copies' = IsCopied files copies log n copies'
FillsAndKeeps files copies log n (Err fault) copies' = (copies' ≡ copies) ⊎ IsCopied files copies log n copies'

abbrev pub WritesCopy : Files → Files → ℕ → ℕ → Result (Unit {0}) CopyFault → Files → Type 0
WritesCopy files copies log n (Ok _) copies' = IsCopied files copies log n copies'
WritesCopy files copies log n (Err Taken) copies' = ⊥
WritesCopy files copies log n (Err Blocked) copies' = copies' ≡ copies
WritesCopy files copies log n (Err (Broken fault)) copies' = (copies' ≡ copies) ⊎ IsCopied files copies log n copies'

-- A log copied aside, over what a killed call left. Refused if something else is there.
abbrev pub CopiesAside : Files → Files → ℕ → ℕ → Result (Unit {0}) CopyFault → Files → Type 0
CopiesAside files copies log n (Ok _) copies' = (file : List ℕ) → IsFile files log file → n ≡ length file → HasAside copies log file copies'
CopiesAside files copies log n (Err Taken) copies' = (copies' ≡ copies)
    × ((file : List ℕ) → IsFile files log file → n ≡ length file → IsOther copies log file)
CopiesAside files copies log n (Err Blocked) copies' = copies' ≡ copies
CopiesAside files copies log n (Err (Broken fault)) copies' = (copies' ≡ copies)
    ⊎ ((file : List ℕ) → IsFile files log file → n ≡ length file → HasAside copies log file copies')
