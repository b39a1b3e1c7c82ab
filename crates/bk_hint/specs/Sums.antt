-- Sums of record sizes by ledger, as in a ledgers map.
use Rattle.std.specs.Prelude.{◌≡◌, ℕ, zero, suc, ◌+◌, ◌==◌, List, [], ◌∷◌, Option, Some, None, unwrap_or, if◌then◌else◌}
use Rattle.std.specs.BTreeMap as tree
use Rattle.std.specs.BTreeMap.{BTreeMap, is_at}
use Rattle.std.specs.Ordering.{nat_cmp}
use Rattle.bk_hint.specs.declared.listed.Listed.{Listed}

-- bytes of the records of a ledger
abbrev pub bytes_in : List Listed → ℕ → ℕ
bytes_in [] ledger = 0
bytes_in (entry ∷ entries) ledger = (if entry.key.ledger == ledger then entry.size else 0) + bytes_in entries ledger

-- what a ledgers map has of a ledger with so many bytes: nothing if it has no record
abbrev pub sum_of : ℕ → Option ℕ
sum_of zero = None
sum_of (suc bytes) = Some (suc bytes)

-- the map has exactly the sums of these entries
abbrev pub IsMapOf : List Listed → BTreeMap ℕ ℕ → Type 0
IsMapOf entries map = (ledger : ℕ) → tree.get nat_cmp map ledger ≡ sum_of (bytes_in entries ledger)

-- bytes that the map has of a ledger
abbrev pub summed_at : BTreeMap ℕ ℕ → ℕ → ℕ
summed_at sums ledger = unwrap_or (tree.get nat_cmp sums ledger) 0

-- the ledger has so many bytes more, and others keep theirs
abbrev pub IsSumAdded : BTreeMap ℕ ℕ → BTreeMap ℕ ℕ → ℕ → ℕ → Type 0
IsSumAdded old new owner bytes = (ledger : ℕ) → tree.get nat_cmp new ledger
    ≡ (if is_at (nat_cmp owner) ledger then Some (summed_at old owner + bytes) else tree.get nat_cmp old ledger)
