-- Passing the first pairs of a part, whose locations are in one log.
use Rattle.std.proofs.Common.{◌≡◌, ℕ, ◌<◌, ◌≤◌, List, [], ◌∷◌, ◌++◌, length, take, drop, sym, ap, ◌∙◌, arith}
use Rattle.std.proofs.Common.{append_assoc, take-append-drop, length-take}
use Rattle.std.specs.List.{AllByRecursion}
use Rattle.bk_record.specs.Key.{EntryKey}
use Rattle.bk_record.specs.Location.{Place}
use Rattle.bk_index.specs.Packed.{cell_pairs}
use Rattle.bk_index.specs.Passing.{PassesLog}
use Rattle.bk_index.proofs.PackedPairs.{cells_append, cells_length}

-- the first of several pairs
pub passes_first : (pairs : List (EntryKey × Place)) (log count : ℕ) → 0 < count → count ≤ length pairs
    → AllByRecursion (λ pair. pair.1.log ≡ log) (take count pairs) → PassesLog pairs log count (drop count pairs)
passes_first pairs log count some within same = record {
  passed = take count pairs;
  split = sym (take-append-drop count pairs);
  many = omega (arith, length-take count pairs, within);
  some = some;
  same = same;
}

module _ (ledger base : ℕ) where
  cells_in_log : (cells : List (ℕ × Place)) (log : ℕ) → AllByRecursion (λ cell. cell.1.log ≡ log) cells
      → AllByRecursion (λ pair. pair.1.log ≡ log) (cell_pairs ledger base cells)
  cells_in_log [] log same = tt
  cells_in_log (cell ∷ cells) log same = (same.0, cells_in_log cells log same.1)

  -- the pairs of the first of several cells
  pub passes_cells : (cells : List (ℕ × Place)) (others : List (EntryKey × Place)) (log count : ℕ) → 0 < count → count ≤ length cells
      → AllByRecursion (λ cell. cell.1.log ≡ log) (take count cells)
      → PassesLog (cell_pairs ledger base cells ++ others) log count (cell_pairs ledger base (drop count cells) ++ others)
  passes_cells cells others log count some within same =
      let front = cell_pairs ledger base (take count cells) in
      let back = cell_pairs ledger base (drop count cells) in
      record {
        passed = front;
        split =
            ap (λ all. cell_pairs ledger base all ++ others) (sym (take-append-drop count cells))
            ∙ ap (λ all. all ++ others) (cells_append ledger base (take count cells) (drop count cells)) ∙ append_assoc front back others;
        many = omega (arith, cells_length ledger base (take count cells), length-take count cells, within);
        some = some;
        same = cells_in_log (take count cells) log same;
      }
