-- Which hints may be used. Read `IsUsable` first.
use Rattle.std.specs.Prelude.{◌≡◌, ◌⊎◌, ℕ, ◌+◌, ◌-◌, ◌/◌, ◌%◌, ◌≤◌, List, ◌++◌, take, drop, length, Some, Ok, slice_get}
use Rattle.std.specs.BTreeMap.{BTreeMap}
use Rattle.std.specs.List.{All}
use Rattle.bk_crc.specs.Checksum.{IsChecksum}
use Rattle.bk_crc.specs.declared.polynomial.Polynomial.TheVariants.{Castagnoli}
use Rattle.bk_disk.specs.Blocks.{HasPrefix}
use Rattle.bk_disk.specs.Disk.{view_end}
use Rattle.bk_head.specs.declared.header.Header.{Header}
use Rattle.bk_head.specs.Header.{IsHeader}
use Rattle.bk_head.specs.Ledgers.{map_of, SpellsMap}
use Rattle.bk_head.specs.Reading.{map_place}
use Rattle.bk_hint.specs.declared.facts.LogFacts.{LogFacts}
use Rattle.bk_hint.specs.declared.listed.Listed.{Listed}
use Rattle.bk_hint.specs.Entries.{last_of, origin, past}
use Rattle.bk_hint.specs.Hint.{IsHint}
use Rattle.bk_hint.specs.Sums.{IsMapOf}
use Rattle.bk_hint_view.specs.Rows.{head_of}
use Rattle.bk_hint_disk.specs.declared.sample.Probe.{Probe}

-- ---- the sample

-- the bytes are the first 20 of the entry's record
abbrev pub IsHead : List ℕ → Listed → Type 0
IsHead bytes entry = bytes ≡ head_of entry

-- the file has the first 20 bytes of the entry's record, four bytes before the entry's payload
abbrev pub IsRecordIn : List ℕ → Listed → Type 0
IsRecordIn file entry = HasPrefix (drop (entry.at - 4) file) (head_of entry)

-- the file has the record of the entry at this place, if there is one
abbrev pub HasListedRecord : List ℕ → List Listed → ℕ → Type 0
HasListedRecord file entries place = (entry : Listed) → slice_get entries place ≡ Some entry → IsRecordIn file entry

-- distance of those of so many entries that are compared with the log
abbrev pub spacing_of : ℕ → ℕ
spacing_of count = (count - 1) / 15 + 1

-- The entry at this place of so many is compared: each one at a multiple of the distance, and the
-- last one.
abbrev pub IsSampled : ℕ → ℕ → Type 0
IsSampled count place = (place % spacing_of count ≡ 0) ⊎ (place + 1 ≡ count)

-- the entries that are compared are records of the file
abbrev pub IsSample : List ℕ → List Listed → Type 0
IsSample file entries = (place : ℕ) (entry : Listed) → slice_get entries place ≡ Some entry → IsSampled (length entries) place → IsRecordIn file entry

-- the file has the record of the probe at its position
abbrev pub IsMet : List ℕ → Probe → Type 0
IsMet file probe = HasPrefix (drop probe.at file) (head_of probe.entry)

-- if a file has these records, it has those of the entries that are compared
abbrev pub AreProbesOf : List Listed → List Probe → Type 0
AreProbesOf entries probes = (file : List ℕ) → All (IsMet file) probes → IsSample file entries

-- if a file has the records after, it has those before, and that of the entry at this place
abbrev pub IsNoted : List Listed → ℕ → List Probe → List Probe → Type 0
IsNoted entries place old new = (file : List ℕ) → All (IsMet file) new → All (IsMet file) old × HasListedRecord file entries place

-- ---- header and ledgers map

-- the header of a log of this length says that its ledgers map is at this position
pub record IsSealedAt (header : List ℕ) (length at : ℕ) : Type 0 where
  pub said : Header
  pub is : IsHeader (take 1024 header) said
  pub count : ℕ
  pub place : map_place length said.map_offset said.count ≡ Ok (Some (at, count))

-- Header and ledgers map have the checksum of the facts, and the ledgers map has exactly the ledgers
-- of the entries, each with the sum of the sizes of its records.
pub record FitsTail (header tail : List ℕ) (facts : LogFacts) (entries : List Listed) : Type 0 where
  pub checked : IsChecksum Castagnoli (header ++ tail) facts.checksum
  pub ledgers : BTreeMap ℕ ℕ
  pub spelled : SpellsMap tail (map_of ledgers)
  pub fits : IsMapOf entries ledgers

-- The bytes are a hint of these entries, of a log of this id, header and length, and the entries end
-- before the ledgers map, which is at this position.
pub record IsFrontOf (header : List ℕ) (length : ℕ) (hint : List ℕ) (log : ℕ) (facts : LogFacts) (entries : List Listed) (at : ℕ) : Type 0 where
  pub is : IsHint hint facts entries
  pub of_log : facts.log ≡ log
  pub length_is : facts.length ≡ length
  pub sealed : IsSealedAt header length at
  pub before_map : past (last_of origin entries) ≤ at + 4

-- ---- the hint

-- The hint may be used for the log of this id, header and file: it is a hint of these entries, of a
-- log of this id and length; the log is sealed, and its ledgers map is behind the entries; header,
-- ledgers map and the records of the sample are those that the hint tells.
pub record IsUsable (header file hint : List ℕ) (log : ℕ) (entries : List Listed) : Type 0 where
  pub facts : LogFacts
  pub at : ℕ
  pub is : IsHint hint facts entries
  pub of_log : facts.log ≡ log
  pub length_is : facts.length ≡ view_end file
  pub sealed : IsSealedAt header (view_end file) at
  pub before_map : past (last_of origin entries) ≤ at + 4
  pub tail : FitsTail header (drop at file) facts entries
  pub sample : IsSample file entries

-- the bytes are a hint that may be used for the log of this id, header and file
abbrev pub IsUsableHint : List ℕ → List ℕ → List ℕ → ℕ → Type 0
IsUsableHint header file hint log = (entries : List Listed) × IsUsable header file hint log entries
