-- The place of a key in a packed page: where a search ends, the end, and the start.
use Rattle.std.proofs.Common.{◌≡◌, ◌⊎◌, inl, inr, ℕ, ◌+◌, ◌-◌, ◌<◌, ◌≤◌, ◌^◌, false, List, [], ◌∷◌, ◌++◌, length, Some, Result, IfOk, IfErr, slice_get, option_map, get_or}
use Rattle.std.proofs.Common.{refl, sym, ap, subst, ◌∙◌, arith}
use Rattle.std.specs.declared.cmp.Ordering.TheVariants.{Less}
use Rattle.std.specs.Ordering.{nat_cmp, is_lt}
use Rattle.std.specs.Bool.{IsTrue}
use Rattle.std.specs.Cmp.{nat_cmp_is}
use Rattle.std.specs.List.Sorted.{IsSearchInRange, IsBinarySearchResult}
use Rattle.std.specs.FinMap.{put, is_sorted}
use Rattle.std.proofs.lemmas.List.Edits.{insert_end}
use Rattle.std.proofs.lemmas.Option.{slice_get_within, get_or_from_slice_get, slice_get_read}
use Rattle.bk_record.specs.Key.{EntryKey, key_cmp}
use Rattle.bk_index.specs.Sorted.{IsAt, IsGapFor}
use Rattle.bk_index.specs.Packed.{cell_pair, cell_pairs}
use Rattle.bk_index.proofs.KeyPlaces.{searched, gap_at_end}
use Rattle.bk_index.proofs.OrderedKeys.{not_before}
use Rattle.bk_index.proofs.PackedPairs.{same_order, cells_length, cells_at, cells_put}
use Rattle.bk_index.proofs.PackedSearch.{search_map}
use Rattle.std.proofs.lemmas.Bool.{cases_lt}

module _ (ledger base : ℕ) where
  -- order of a key of the page and one with an offset
  pub offset_order : (x : ℕ) (key : EntryKey) (offset : ℕ) → key ≡ record { ledger = ledger; entry = base + offset }
      → key_cmp (record { ledger = ledger; entry = base + x }) key ≡ nat_cmp x offset
  offset_order x key offset named = ap (key_cmp (record { ledger = ledger; entry = base + x })) named ∙ same_order ledger base x offset

  pub offset_less : (x : ℕ) (key : EntryKey) (offset : ℕ) → key ≡ record { ledger = ledger; entry = base + offset } → x < offset
      → key_cmp (record { ledger = ledger; entry = base + x }) key ≡ Less
  offset_less x key offset named less = offset_order x key offset named ∙ sym (nat_cmp_is x offset Less less)

  -- a key that is not after a key of the page, and has no offset, is before the base
  pub before_base : (key : EntryKey) (o : ℕ) → base + o < base + 2 ^ 32 → (key.ledger ≡ ledger → base ≤ key.entry → base + 2 ^ 32 ≤ key.entry)
      → is_lt (key_cmp (record { ledger = ledger; entry = base + o }) key) ≡ false → (key.ledger < ledger) ⊎ ((ledger ≡ key.ledger) × (key.entry < base))
  before_base key o small outside after =
      elim (not_before (record { ledger = ledger; entry = base + o }) key after) [
        | inl below ↦ inl below
        | inr own ↦ inr (
          sym own.0,
          elim (cases_lt key.entry base) [
            | inl below ↦ below
            | inr order ↦ absurd (omega (arith, outside own.0 order, own.1))
          ],
        )
      ]

  module _ {X : Type 0} (cells : List (ℕ × X)) (sorted : IsTrue (is_sorted key_cmp (cell_pairs ledger base cells))) where
    -- a search by offset ends at the key, or at its gap
    pub cells_searched : (key : EntryKey) (offset : ℕ) → key ≡ record { ledger = ledger; entry = base + offset } → (r : Result ℕ ℕ)
        → IsSearchInRange r (length cells) → IsBinarySearchResult (λ cell. nat_cmp cell.0 offset) cells r
        → record { found : IfOk r (IsAt (cell_pairs ledger base cells) key); absent : IfErr r (IsGapFor (cell_pairs ledger base cells) key) }
    cells_searched key offset named r in_range ends =
        searched (cell_pairs ledger base cells) sorted key r (subst (IsSearchInRange r) (sym (cells_length ledger base cells)) in_range)
        (search_map (cell_pair ledger base) (λ cell. nat_cmp cell.0 offset) (λ pair. key_cmp pair.0 key) (λ cell. offset_order cell.0 key offset named) cells r
        in_range ends)

    last_pair : (cell : ℕ × X) → slice_get cells (length cells - 1) ≡ Some cell
        → slice_get (cell_pairs ledger base cells) (length (cell_pairs ledger base cells) - 1) ≡ Some (cell_pair ledger base cell)
    last_pair cell last =
        ap (λ n. slice_get (cell_pairs ledger base cells) (n - 1)) (cells_length ledger base cells)
        ∙ cells_at ledger base cells (length cells - 1) ∙ ap (option_map (cell_pair ledger base)) last

    -- the last cell has the last key
    pub cells_last : (cell : ℕ × X) → slice_get cells (length cells - 1) ≡ Some cell
        → Some (cell_pair ledger base cell).0
        ≡ option_map (λ e. e.0) (slice_get (cell_pairs ledger base cells) (length (cell_pairs ledger base cells) - 1))
    cells_last cell last = sym (ap (option_map (λ e. e.0)) (last_pair cell last))

    -- a key after that of the last cell has its place at the end
    pub gap_behind : (key : EntryKey) (cell : ℕ × X) → slice_get cells (length cells - 1) ≡ Some cell → key_cmp (cell_pair ledger base cell).0 key ≡ Less
        → IsGapFor (cell_pairs ledger base cells) key (length cells)
    gap_behind key cell last less =
        let pairs = cell_pairs ledger base cells in
        let there = last_pair cell last in
        let some : 0 < length pairs = omega (arith, slice_get_within pairs (length pairs - 1) (cell_pair ledger base cell) there) in
        subst (IsGapFor pairs key) (cells_length ledger base cells)
        (gap_at_end pairs sorted key (cell_pair ledger base cell) some
        (sym (get_or_from_slice_get pairs (length pairs - 1) (cell_pair ledger base cell) (cell_pair ledger base cell) there)) less)

    -- a key with an offset greater than the last one
    module _ (key : EntryKey) (offset : ℕ) (named : key ≡ record { ledger = ledger; entry = base + offset }) (cell : ℕ × X) (some : 0 < length cells)
        (read : cell ≡ get_or cells (length cells - 1) cell) (less : cell.0 < offset) where
      pub gap_at_last : IsGapFor (cell_pairs ledger base cells) key (length cells)
      gap_at_last =
          gap_behind key cell (slice_get_read cells (length cells) (length cells - 1) cell refl (omega arith) read)
          (offset_less cell.0 key offset named less)

      pub put_last : (v : X) → put key_cmp key v (cell_pairs ledger base cells) ≡ cell_pairs ledger base (cells ++ (offset, v) ∷ [])
      put_last v =
          cells_put ledger base cells sorted key (length cells) gap_at_last offset named v ∙ ap (cell_pairs ledger base) (insert_end cells (offset, v))
