-- The entries of a log in file order, and their short form: heads and steps. Read `AreFrom`, then
-- `entries_of`.
use Rattle.std.specs.Prelude.{◌≡◌, ℕ, zero, suc, ◌+◌, ◌-◌, ◌<◌, ◌≤◌, ◌^◌, List, [], ◌∷◌, ◌++◌, length, drop, nat_lt, if◌then◌else◌}
use Rattle.bk_hint.specs.declared.listed.Listed.{Listed}
use Rattle.bk_hint.specs.declared.head.Head.{Head}

-- Limits of an entry: its ids are not negative, its payload has 16 to 2 ^ 31 - 1 bytes, and its
-- record ends at byte 2 ^ 32 - 1 at the latest.
pub record IsLegal (entry : Listed) : Type 0 where
  pub ledger : entry.key.ledger < 2 ^ 63
  pub id : entry.key.entry < 2 ^ 63
  pub least : 20 ≤ entry.size
  pub most : entry.size < 2 ^ 31 + 4
  pub ends : entry.at + entry.size < 2 ^ 32 + 4

-- least position of a payload in a record behind this entry's
abbrev pub past : Listed → ℕ
past entry = entry.at + entry.size

-- Legal entries whose records stand one after another without overlap. The payload of the first one
-- is at this position or behind it.
abbrev pub AreFrom : ℕ → List Listed → Type 0
AreFrom from [] = Unit {0}
AreFrom from (entry ∷ entries) = IsLegal entry × ((from ≤ entry.at) × AreFrom (past entry) entries)

-- last entry of a list, or the one before the list
abbrev pub last_of : Listed → List Listed → Listed
last_of before [] = before
last_of before (entry ∷ entries) = last_of entry entries

-- Stands for the entry before the first one: it ends where the first payload can begin. No entry id
-- is behind its own, so no record can follow it directly.
abbrev pub origin : Listed
origin = record { key = record { ledger = 0; entry = 9223372036854775807 }; at = 1028; size = 0 }

-- sum of the sizes of the records
abbrev pub bytes_of : List Listed → ℕ
bytes_of [] = 0
bytes_of (entry ∷ entries) = entry.size + bytes_of entries

-- ---- the short form

-- entry whose record stands directly behind that of `last`, with the next entry id
abbrev pub next_of : Listed → ℕ → Listed
next_of last size = record {
  key = record { ledger = last.key.ledger; entry = last.key.entry + 1 };
  at = last.at + last.size;
  size = size;
}

-- so many entries directly behind `last`, of the size that it has
abbrev pub repeats : ℕ → Listed → List Listed
repeats zero last = []
repeats (suc count) last = next_of last last.size ∷ repeats count (next_of last last.size)

-- entry of a head
abbrev pub first_of : Head → Listed
first_of head = record { key = record { ledger = head.ledger; entry = head.entry }; at = head.at; size = head.size }

abbrev pub first_part : List Head → List Listed
first_part [] = []
first_part (head ∷ heads) = first_of head ∷ []

-- Entries of a step behind `last`. The step 0 is the entry of the next head, a step below 2 ^ 31 the
-- entry directly behind `last` whose payload has so many bytes, and 2 ^ 31 + n are n + 1 more of the
-- size that `last` has.
abbrev pub part_of : Listed → ℕ → List Head → List Listed
part_of last zero heads = first_part heads
part_of last (suc step) heads = if nat_lt (suc step) (2 ^ 31) then next_of last (suc step + 4) ∷ [] else repeats (suc step - 2 ^ 31 + 1) last

-- heads that a step leaves
abbrev pub heads_behind : ℕ → List Head → List Head
heads_behind zero heads = drop 1 heads
heads_behind (suc step) heads = heads

-- entries of heads and steps behind `last`
unfoldable pub entries_of : Listed → List Head → List ℕ → List Listed
entries_of last heads [] = []
entries_of last heads (step ∷ steps) =
    part_of last step heads ++ entries_of (last_of last (part_of last step heads)) (heads_behind step heads) steps

-- number of steps that begin a run
unfoldable pub begins : List ℕ → ℕ
begins [] = 0
begins (zero ∷ steps) = suc (begins steps)
begins (suc step ∷ steps) = begins steps

-- Heads and steps list legal entries in order; each step 0 has its head.
pub record IsSound (heads : List Head) (steps : List ℕ) : Type 0 where
  pub heads_fit : begins steps ≡ length heads
  pub in_order : AreFrom (past origin) (entries_of origin heads steps)

-- the fields of a `Contents`: `last` is the last entry
pub record IsKept (heads : List Head) (steps : List ℕ) (last : Listed) : Type 0 where
  pub sound : IsSound heads steps
  pub last_is : last ≡ last_of origin (entries_of origin heads steps)

-- heads and steps list these entries
pub record Lists (heads : List Head) (steps : List ℕ) (entries : List Listed) : Type 0 where
  pub heads_fit : begins steps ≡ length heads
  pub entries_are : entries_of origin heads steps ≡ entries
