-- Packed pages: the cells of one ledger, each with the offset of an entry from the base of the page.
use Rattle.std.specs.Prelude.{◌≡◌, ℕ, ◌+◌, ◌<◌, ◌^◌, List, map}
use Rattle.std.specs.List.{AllByRecursion}
use Rattle.bk_record.specs.Location.{Place}
use Rattle.bk_record.specs.Key.{EntryKey}

-- pair of a cell
abbrev pub cell_pair : {X : Type 0} → ℕ → ℕ → ℕ × X → EntryKey × X
cell_pair ledger base cell = (record { ledger = ledger; entry = base + cell.0 }, cell.1)

-- pairs of cells, in order
abbrev pub cell_pairs : {X : Type 0} → ℕ → ℕ → List (ℕ × X) → List (EntryKey × X)
cell_pairs ledger base cells = map (cell_pair ledger base) cells

-- the locations of cells are all in the log, if the number is the id of one
abbrev pub AreInLog : ℕ → List (ℕ × Place) → Type 0
AreInLog log cells = log < 2 ^ 31 → AllByRecursion (λ cell. cell.1.log ≡ log) cells
