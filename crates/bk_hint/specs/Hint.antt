-- Hint files. Read `IsHint` first: the contract of `encode` and `decode`. All numbers are big-endian.
use Rattle.std.specs.Prelude.{◌≡◌, ℕ, ◌<◌, ◌^◌, List, ◌++◌, length}
use Rattle.std.specs.Int.{w32, w64, to_be_bytes}
use Rattle.std.specs.List.{flat_map, AllByRecursion}
use Rattle.bk_crc.specs.Checksum.{IsChecksum}
use Rattle.bk_crc.specs.declared.polynomial.Polynomial.TheVariants.{Castagnoli}
use Rattle.bk_hint.specs.declared.facts.LogFacts.{LogFacts}
use Rattle.bk_hint.specs.declared.listed.Listed.{Listed}
use Rattle.bk_hint.specs.declared.head.Head.{Head}
use Rattle.bk_hint.specs.Entries.{origin, entries_of, IsSound}

-- the four bytes `BKHI` as a number
abbrev pub magic : ℕ
magic = 0x424b4849

-- facts: the log's id in four bytes, its length in eight, its checksum in four
unfoldable pub facts_bytes : LogFacts → List ℕ
facts_bytes facts = to_be_bytes w32 facts.log ++ (to_be_bytes w64 facts.length ++ to_be_bytes w32 facts.checksum)

-- first 32 bytes: magic, version 1, facts, and the numbers of heads and steps
unfoldable pub front_of : LogFacts → ℕ → ℕ → List ℕ
front_of facts heads steps =
    to_be_bytes w32 magic ++ (to_be_bytes w32 1 ++ (facts_bytes facts ++ (to_be_bytes w32 heads ++ to_be_bytes w32 steps)))

-- head: ledger id and entry id in eight bytes each, position of the payload and size of the record in
-- four bytes each
unfoldable pub head_bytes : Head → List ℕ
head_bytes head = to_be_bytes w64 head.ledger ++ (to_be_bytes w64 head.entry ++ (to_be_bytes w32 head.at ++ to_be_bytes w32 head.size))

-- step: four bytes
abbrev pub step_bytes : ℕ → List ℕ
step_bytes step = to_be_bytes w32 step

-- a hint without its checksum
abbrev pub body_of : LogFacts → List Head → List ℕ → List ℕ
body_of facts heads steps = front_of facts (length heads) (length steps) ++ (flat_map head_bytes heads ++ flat_map step_bytes steps)

-- numbers that fit their bytes
pub record FactsFit (facts : LogFacts) : Type 0 where
  pub log : facts.log < 2 ^ 32
  pub bytes : facts.length < 2 ^ 64
  pub checksum : facts.checksum < 2 ^ 32

pub record HeadFits (head : Head) : Type 0 where
  pub ledger : head.ledger < 2 ^ 64
  pub entry : head.entry < 2 ^ 64
  pub at : head.at < 2 ^ 32
  pub size : head.size < 2 ^ 32

abbrev pub StepFits : ℕ → Type 0
StepFits step = step < 2 ^ 32

-- the bytes are a body and a number in four bytes
pub record Spells (bytes : List ℕ) (facts : LogFacts) (heads : List Head) (steps : List ℕ) (sum : ℕ) : Type 0 where
  pub bytes_are : bytes ≡ body_of facts heads steps ++ to_be_bytes w32 sum
  pub facts_fit : FactsFit facts
  pub heads_fit : AllByRecursion HeadFits heads
  pub steps_fit : AllByRecursion StepFits steps
  pub few_heads : length heads < 2 ^ 32
  pub few_steps : length steps < 2 ^ 32
  pub sum_fits : sum < 2 ^ 32

-- The bytes are the hint of a log with these entries: heads and steps that list the entries, and the
-- CRC-32C of everything before it.
pub record IsHint (bytes : List ℕ) (facts : LogFacts) (entries : List Listed) : Type 0 where
  pub heads : List Head
  pub steps : List ℕ
  pub sum : ℕ
  pub spells : Spells bytes facts heads steps sum
  pub checked : IsChecksum Castagnoli (body_of facts heads steps) sum
  pub sound : IsSound heads steps
  pub entries_are : entries ≡ entries_of origin heads steps
