-- What `decode` reads, and when each fault comes.
use Rattle.std.specs.Prelude.{◌≡◌, ◌≢◌, ℕ, zero, suc, ◌+◌, ◌-◌, ◌*◌, ◌<◌, List, [], ◌∷◌, length, take, drop, Result, Ok, Err}
use Rattle.std.specs.Int.{w32, w64, from_be_bytes}
use Rattle.bk_crc.specs.Checksum.{IsChecksum}
use Rattle.bk_crc.specs.declared.polynomial.Polynomial.TheVariants.{Castagnoli}
use Rattle.bk_hint.specs.declared.facts.LogFacts.{LogFacts}
use Rattle.bk_hint.specs.declared.fault.HintFault.{HintFault}
use Rattle.bk_hint.specs.declared.fault.HintFault.TheVariants.{Memory, Short, BadMagic, Version, Length, Checksum, Entries}
use Rattle.bk_hint.specs.declared.listed.Listed.{Listed}
use Rattle.bk_hint.specs.declared.head.Head.{Head}
use Rattle.bk_hint.specs.Entries.{IsSound}
use Rattle.bk_hint.specs.Hint.{magic, Spells}

-- fields of the first 32 bytes
abbrev pub facts_at : List ℕ → LogFacts
facts_at bytes = record {
  log = from_be_bytes w32 (drop 8 bytes);
  length = from_be_bytes w64 (drop 12 bytes);
  checksum = from_be_bytes w32 (drop 20 bytes);
}

abbrev pub heads_at : List ℕ → ℕ
heads_at bytes = from_be_bytes w32 (drop 24 bytes)

abbrev pub steps_at : List ℕ → ℕ
steps_at bytes = from_be_bytes w32 (drop 28 bytes)

-- length of a hint with these numbers of heads and steps
abbrev pub length_of : ℕ → ℕ → ℕ
length_of heads steps = 36 + (24 * heads + 4 * steps)

-- The bytes have a front with these facts and numbers, and the length that these say.
pub record IsFront (bytes : List ℕ) (facts : LogFacts) (heads steps : ℕ) : Type 0 where
  pub begins : from_be_bytes w32 bytes ≡ magic
  pub version : from_be_bytes w32 (drop 4 bytes) ≡ 1
  pub facts_are : facts ≡ facts_at bytes
  pub heads_are : heads ≡ heads_at bytes
  pub steps_are : steps ≡ steps_at bytes
  pub long : length bytes ≡ length_of heads steps

-- head in the first 24 bytes
abbrev pub head_at : List ℕ → Head
head_at bytes = record {
  ledger = from_be_bytes w64 bytes;
  entry = from_be_bytes w64 (drop 8 bytes);
  at = from_be_bytes w32 (drop 16 bytes);
  size = from_be_bytes w32 (drop 20 bytes);
}

-- so many heads
unfoldable pub heads_in : ℕ → List ℕ → List Head
heads_in zero bytes = []
heads_in (suc count) bytes = head_at bytes ∷ heads_in count (drop 24 bytes)

-- so many steps
unfoldable pub steps_in : ℕ → List ℕ → List ℕ
steps_in zero bytes = []
steps_in (suc count) bytes = from_be_bytes w32 bytes ∷ steps_in count (drop 4 bytes)

-- the last four bytes are the checksum of those before
abbrev pub HasChecksum : List ℕ → Type 0
HasChecksum bytes = IsChecksum Castagnoli (take (length bytes - 4) bytes) (from_be_bytes w32 (drop (length bytes - 4) bytes))

abbrev pub HasNoChecksum : List ℕ → Type 0
HasNoChecksum bytes = ¬ (HasChecksum bytes)

-- heads and steps of the bytes list no legal entries in order
pub record HasNoEntries (bytes : List ℕ) : Type 0 where
  pub facts : LogFacts
  pub heads : List Head
  pub steps : List ℕ
  pub sum : ℕ
  pub spells : Spells bytes facts heads steps sum
  pub unsound : ¬ (IsSound heads steps)

-- The bytes have this fault; memory is none of the bytes.
abbrev pub HasFault : List ℕ → HintFault → Type 0
HasFault bytes Memory = Unit {0}
HasFault bytes (Short count) = (count ≡ length bytes) × (length bytes < 36)
HasFault bytes BadMagic = from_be_bytes w32 bytes ≢ magic
HasFault bytes (Version version) = (version ≡ from_be_bytes w32 (drop 4 bytes)) × (version ≢ 1)
HasFault bytes (Length count) = (count ≡ length bytes) × (length bytes ≢ length_of (heads_at bytes) (steps_at bytes))
HasFault bytes Checksum = HasNoChecksum bytes
HasFault bytes Entries = HasNoEntries bytes

-- entries and facts, or memory ran out
abbrev pub GivesHint : Result (List Listed × LogFacts) HintFault → List Listed → LogFacts → Type 0
GivesHint (Ok found) entries facts = (found.0 ≡ entries) × (found.1 ≡ facts)
GivesHint (Err fault) entries facts = fault ≡ Memory
