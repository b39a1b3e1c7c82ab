-- Result of reading a log's ledgers map: the map, `None`, or the first error from the left. Read
-- `MapAnswer` first.
use Rattle.std.specs.Prelude.{◌≡◌, ◌≢◌, ℕ, ◌+◌, ◌≤◌, ℤ, pos, negsuc, List, length, ◌&&◌, ◌==◌, nat_le, if◌then◌else◌, Option, Some, None, Result, Ok, Err}
use Rattle.std.specs.BTreeMap.{BTreeMap}
use Rattle.std.specs.FinMap as ledgers
use Rattle.bk_record.specs.Files.{header_length}
use Rattle.bk_head.specs.declared.header.Header.{Header}
use Rattle.bk_head.specs.declared.fault.HeadFault.{HeadFault}
use Rattle.bk_head.specs.declared.fault.HeadFault.TheVariants.{Negative, NotAMap, CountDiffers}
use Rattle.bk_head.specs.Ledgers.{LedgersMap, map_of, SpellsMap}
use Rattle.bk_head.specs.Faults.{FirstFault, AsksForMemory, OrMemory}

-- Offset and count of the map, or `None` in a log that is not sealed (BookKeeper entry log format).
-- A map is at byte 1024 or later; its offset may be the log's length.
abbrev pub map_place : ℕ → ℤ → ℤ → Result (Option (ℕ × ℕ)) HeadFault
map_place length (negsuc n) count = Err Negative
map_place length (pos offset) (negsuc n) = Err Negative
map_place length (pos offset) (pos count) = if offset == 0 && count == 0 then Ok None
    else if nat_le header_length offset && nat_le offset length then Ok (Some (offset, count))
    else Err (NotAMap offset)

-- result for the bytes from the offset
abbrev pub TailAnswer : ℕ → ℕ → List ℕ → Result (Option LedgersMap) HeadFault → Type 0
TailAnswer offset count tail (Ok None) = ⊥
TailAnswer offset count tail (Ok (Some map)) = SpellsMap tail map × (ledgers.len map ≡ count)
TailAnswer offset count tail (Err (CountDiffers found)) = (map : LedgersMap)
    × (SpellsMap tail map × ((found ≡ ledgers.len map) × (found ≢ count)))
TailAnswer offset count tail (Err fault) = FirstFault offset tail fault

-- result for the offset and count of a header
abbrev pub AnswerAt : Result (Option (ℕ × ℕ)) HeadFault → List ℕ → Result (Option LedgersMap) HeadFault
    → Type 0
AnswerAt (Err fault) tail answer = answer ≡ Err fault
AnswerAt (Ok None) tail answer = answer ≡ Ok None
AnswerAt (Ok (Some place)) tail answer = TailAnswer place.0 place.1 tail answer

-- Result for a log of this length, whose bytes from the header's offset are `tail`.
unfoldable pub MapAnswer : List ℕ → ℕ → Header → Result (Option LedgersMap) HeadFault → Type 0
MapAnswer tail length header answer = AnswerAt (map_place length header.map_offset header.count) tail answer

-- result of the program, with its map as a finite map
abbrev pub answer_value : Result (Option (BTreeMap ℕ ℕ)) HeadFault → Result (Option LedgersMap) HeadFault
answer_value (Ok None) = Ok None
answer_value (Ok (Some tree)) = Ok (Some (map_of tree))
answer_value (Err fault) = Err fault

-- `Memory` only if the header has a map, and a pair of it can be added
abbrev pub WantsMemory : List ℕ → ℕ → Header → Type 0
WantsMemory tail length header =
    ((place : ℕ × ℕ) × (Ok (Some place) ≡ map_place length header.map_offset header.count)) × AsksForMemory tail

-- `M` if the result is `Memory`, else `P`
abbrev pub UnlessMemory : Result (Option LedgersMap) HeadFault → Type 0 → Type 0 → Type 0
UnlessMemory (Ok map) M P = P
UnlessMemory (Err fault) M P = OrMemory fault M P

-- `tail` has the length of the log from the offset to its end; there is no condition if the offset
-- is out of range
abbrev pub IsTail : List ℕ → ℕ → ℤ → Type 0
IsTail tail end map_offset = (offset : ℕ) → map_offset ≡ pos offset
    → header_length ≤ offset → offset ≤ end → offset + length tail ≡ end
