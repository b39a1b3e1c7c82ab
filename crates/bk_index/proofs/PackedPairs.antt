-- The cells of a packed page as pairs: their order, their places, and changes there.
use Rattle.std.proofs.Common.{◌≡◌, ◌⊎◌, inl, inr, ℕ, zero, suc, ◌+◌, ◌<◌, ◌≤◌, not, leb, List, [], ◌∷◌, ◌++◌, length, get_or, set, Some, slice_get, option_map}
use Rattle.std.proofs.Common.{refl, sym, ap, subst, ◌∙◌, arith}
use lib.ListN.{length-map}
use Rattle.std.specs.declared.cmp.Ordering.{Ordering}
use Rattle.std.specs.declared.cmp.Ordering.TheVariants.{Less, Equal, Greater}
use Rattle.std.specs.Ordering.{nat_cmp, ordering_then, MatchOrdering}
use Rattle.std.specs.Cmp.{nat_cmp_is}
use Rattle.std.specs.Bool.{◌==◌, IsTrue}
use Rattle.std.specs.List.{insert, filter}
use Rattle.std.specs.FinMap.{find, put, is_sorted}
use Rattle.std.proofs.lemmas.Bool.{eq-eqb, ne_eqb, le-leb, lt-leb}
use Rattle.std.proofs.lemmas.Cmp.{ranked}
use Rattle.std.proofs.lemmas.List.{get_or-map}
use Rattle.std.proofs.lemmas.Option.{slice_get-get_or}
use Rattle.bk_record.specs.Key.{EntryKey, key_cmp}
use Rattle.bk_record.proofs.SortedPairs.{Some-same}
use Rattle.bk_index.specs.Sorted.{IsAt, IsGapFor}
use Rattle.bk_index.specs.Packed.{cell_pair, cell_pairs}
use Rattle.bk_index.proofs.PagePairs.{find_held, put_held, put_absent}

-- a key after another one: of a greater ledger, or of the same with a greater entry
pub greater_key : (a b : EntryKey) → (b.ledger < a.ledger) ⊎ ((a.ledger ≡ b.ledger) × (b.entry < a.entry)) → key_cmp a b ≡ Greater
greater_key a b after = elim after [
  | inl below ↦ ap (λ r. ordering_then r (nat_cmp a.entry b.entry)) (sym (nat_cmp_is a.ledger b.ledger Greater below))
  | inr own ↦
      ap (λ r. ordering_then r (nat_cmp a.entry b.entry)) (sym (nat_cmp_is a.ledger b.ledger Equal own.0))
      ∙ sym (nat_cmp_is a.entry b.entry Greater own.1)
]

module _ (ledger base : ℕ) where
  shifted : (x y : ℕ) (r : Ordering) → r ≡ nat_cmp x y → MatchOrdering r (base + x < base + y) (base + x ≡ base + y) (base + y < base + x)
  shifted x y Less is = let below : x < y = ranked x y Less is in omega arith
  shifted x y Equal is = let same : x ≡ y = ranked x y Equal is in omega arith
  shifted x y Greater is = let above : y < x = ranked x y Greater is in omega arith

  -- keys of the page are in the order of their offsets
  pub same_order : (x y : ℕ) → key_cmp (record { ledger = ledger; entry = base + x }) (record { ledger = ledger; entry = base + y }) ≡ nat_cmp x y
  same_order x y =
      ap (λ r. ordering_then r (nat_cmp (base + x) (base + y))) (sym (nat_cmp_is ledger ledger Equal refl))
      ∙ sym (nat_cmp_is (base + x) (base + y) (nat_cmp x y) (shifted x y (nat_cmp x y) refl))

  module _ {X : Type 0} where
    pub cells_length : (cells : List (ℕ × X)) → length (cell_pairs ledger base cells) ≡ length cells
    cells_length cells = length-map cells (cell_pair ledger base)

    pub cells_insert : (cells : List (ℕ × X)) (at : ℕ) (cell : ℕ × X)
        → cell_pairs ledger base (insert cells at cell) ≡ insert (cell_pairs ledger base cells) at (cell_pair ledger base cell)
    cells_insert [] zero cell = refl
    cells_insert [] (suc at) cell = refl
    cells_insert (c ∷ cs) zero cell = refl
    cells_insert (c ∷ cs) (suc at) cell = ap (λ rest. cell_pair ledger base c ∷ rest) (cells_insert cs at cell)

    pub cells_set : (cells : List (ℕ × X)) (at : ℕ) (cell : ℕ × X)
        → cell_pairs ledger base (set cells at cell) ≡ set (cell_pairs ledger base cells) at (cell_pair ledger base cell)
    cells_set [] zero cell = refl
    cells_set [] (suc at) cell = refl
    cells_set (c ∷ cs) zero cell = refl
    cells_set (c ∷ cs) (suc at) cell = ap (λ rest. cell_pair ledger base c ∷ rest) (cells_set cs at cell)

    pub cells_append : (xs ys : List (ℕ × X)) → cell_pairs ledger base (xs ++ ys) ≡ cell_pairs ledger base xs ++ cell_pairs ledger base ys
    cells_append [] ys = refl
    cells_append (x ∷ xs) ys = ap (λ rest. cell_pair ledger base x ∷ rest) (cells_append xs ys)

    pub cells_at : (cells : List (ℕ × X)) (i : ℕ) → slice_get (cell_pairs ledger base cells) i ≡ option_map (cell_pair ledger base) (slice_get cells i)
    cells_at [] zero = refl
    cells_at [] (suc i) = refl
    cells_at (c ∷ cs) zero = refl
    cells_at (c ∷ cs) (suc i) = cells_at cs i

    -- a cell read at a place is the pair there
    pub cells_read : (cells : List (ℕ × X)) (i : ℕ) (cell : ℕ × X) → i < length cells → cell ≡ get_or cells i cell
        → cell_pair ledger base cell ≡ get_or (cell_pairs ledger base cells) i (cell_pair ledger base cell)
    cells_read cells i cell within read =
        ap (cell_pair ledger base) read ∙ sym (get_or-map (cell_pair ledger base) cells i cell (cell_pair ledger base cell) within)

    -- the key at a place is that of the cell there
    pub cells_key : (cells : List (ℕ × X)) (i : ℕ) (cell : ℕ × X) (key : EntryKey) → i < length cells → cell ≡ get_or cells i cell
        → IsAt (cell_pairs ledger base cells) key i → (cell_pair ledger base cell).0 ≡ key
    cells_key cells i cell key within read here =
        let pairs = cell_pairs ledger base cells in
        let there = slice_get-get_or pairs i (cell_pair ledger base cell) (omega (arith, cells_length cells)) in
        ap (λ (e : EntryKey × X). e.0) (cells_read cells i cell within read) ∙ Some-same (sym (ap (option_map (λ e. e.0)) there) ∙ here)

    -- the place of a key before all cells
    pub gap_before : (cells : List (ℕ × X)) (key : EntryKey) → (key.ledger < ledger) ⊎ ((ledger ≡ key.ledger) × (key.entry < base))
        → IsGapFor (cell_pairs ledger base cells) key 0
    gap_before cells key before =
        let above : (c : ℕ × X) → key_cmp (cell_pair ledger base c).0 key ≡ Greater =
        λ c. greater_key (cell_pair ledger base c).0 key (elim before [ inl below ↦ inl below | inr own ↦ inr (own.0, omega (arith, own.1)) ]) in
        record {
          in_range = omega arith;
          smaller_before = λ i e none there. absurd (omega arith);
          greater_from = λ i e from there. each_above cells above i e there;
        }
      where
        each_above : (cs : List (ℕ × X)) → ((c : ℕ × X) → key_cmp (cell_pair ledger base c).0 key ≡ Greater) → (i : ℕ) (e : EntryKey × X)
            → slice_get (cell_pairs ledger base cs) i ≡ Some e → key_cmp e.0 key ≡ Greater
        each_above [] above i e there = cc
        each_above (c ∷ cs) above zero e there = subst (λ (p : EntryKey × X). key_cmp p.0 key ≡ Greater) (Some-same there) (above c)
        each_above (c ∷ cs) above (suc i) e there = each_above cs above i e there

    -- the cells with a new one at its place are the pairs with the new key
    pub cells_put : (cells : List (ℕ × X)) → IsTrue (is_sorted key_cmp (cell_pairs ledger base cells)) → (key : EntryKey) (at : ℕ)
        → IsGapFor (cell_pairs ledger base cells) key at → (offset : ℕ) → key ≡ record { ledger = ledger; entry = base + offset } → (v : X)
        → put key_cmp key v (cell_pairs ledger base cells) ≡ cell_pairs ledger base (insert cells at (offset, v))
    cells_put cells sorted key at gap offset named v =
        put_absent (cell_pairs ledger base cells) sorted key at gap v
        ∙ ap (λ k. insert (cell_pairs ledger base cells) at (k, v)) named ∙ sym (cells_insert cells at (offset, v))

    -- two lists of the cells and a new one have the pairs with the new key
    pub cells_parts : (cells : List (ℕ × X)) → IsTrue (is_sorted key_cmp (cell_pairs ledger base cells)) → (key : EntryKey) (at : ℕ)
        → IsGapFor (cell_pairs ledger base cells) key at → (offset : ℕ) → key ≡ record { ledger = ledger; entry = base + offset } → (v : X)
        → (lower upper : List (ℕ × X)) → lower ++ upper ≡ insert cells at (offset, v)
        → cell_pairs ledger base lower ++ cell_pairs ledger base upper ≡ put key_cmp key v (cell_pairs ledger base cells)
    cells_parts cells sorted key at gap offset named v lower upper all =
        sym (cells_append lower upper) ∙ ap (cell_pairs ledger base) all ∙ sym (cells_put cells sorted key at gap offset named v)

    pub cells_within : (cells : List (ℕ × X)) (i : ℕ) (key : EntryKey) → IsAt (cell_pairs ledger base cells) key i → i < length cells
    cells_within [] zero key here = cc
    cells_within [] (suc i) key here = cc
    cells_within (c ∷ cs) zero key here = omega arith
    cells_within (c ∷ cs) (suc i) key here = omega (arith, cells_within cs i key here)

    module _ (cells : List (ℕ × X)) (sorted : IsTrue (is_sorted key_cmp (cell_pairs ledger base cells))) (key : EntryKey) (at : ℕ) (cell : ℕ × X)
        (here : IsAt (cell_pairs ledger base cells) key at) (read : cell ≡ get_or cells at cell) where
      -- a look-up finds the place in the cell
      pub cells_find : find key_cmp key (cell_pairs ledger base cells) ≡ Some cell.1
      cells_find =
          find_held (cell_pairs ledger base cells) sorted key at (cell_pair ledger base cell) here
          (cells_read cells at cell (cells_within cells at key here) read)

      -- the cells with another place at the key are the pairs with it
      pub cells_replace : (v : X) → put key_cmp key v (cell_pairs ledger base cells) ≡ cell_pairs ledger base (set cells at (cell.0, v))
      cells_replace v =
          let within = cells_within cells at key here in
          put_held (cell_pairs ledger base cells) sorted key at (cell_pair ledger base cell) here (cells_read cells at cell within read) v
          ∙ ap (λ k. set (cell_pairs ledger base cells) at (k, v)) (sym (cells_key cells at cell key within read here))
          ∙ sym (cells_set cells at (cell.0, v))

    -- ---- the pairs of a ledger: all or none

    pub own_all : (cells : List (ℕ × X)) (q : ℕ) → ledger ≡ q → filter (λ e. e.0.ledger == q) (cell_pairs ledger base cells) ≡ cell_pairs ledger base cells
    own_all [] q same = refl
    own_all (c ∷ cs) q same = rw (eq-eqb ledger q same) (ap (λ rest. cell_pair ledger base c ∷ rest) (own_all cs q same))

    pub own_none : (cells : List (ℕ × X)) (q : ℕ) → (ledger ≡ q → ⊥) → filter (λ e. e.0.ledger == q) (cell_pairs ledger base cells) ≡ []
    own_none [] q apart = refl
    own_none (c ∷ cs) q apart = rw (ne_eqb ledger q apart) (own_none cs q apart)

    pub rest_none : (cells : List (ℕ × X)) (q : ℕ) → ledger ≡ q → filter (λ e. not (e.0.ledger == q)) (cell_pairs ledger base cells) ≡ []
    rest_none [] q same = refl
    rest_none (c ∷ cs) q same = rw (eq-eqb ledger q same) (rest_none cs q same)

    pub rest_all : (cells : List (ℕ × X)) (q : ℕ) → (ledger ≡ q → ⊥)
        → filter (λ e. not (e.0.ledger == q)) (cell_pairs ledger base cells) ≡ cell_pairs ledger base cells
    rest_all [] q apart = refl
    rest_all (c ∷ cs) q apart = rw (ne_eqb ledger q apart) (ap (λ rest. cell_pair ledger base c ∷ rest) (rest_all cs q apart))

    pub upto_all : (cells : List (ℕ × X)) (q : ℕ) → ledger ≤ q → filter (λ e. leb e.0.ledger q) (cell_pairs ledger base cells) ≡ cell_pairs ledger base cells
    upto_all [] q order = refl
    upto_all (c ∷ cs) q order = rw (le-leb ledger q order) (ap (λ rest. cell_pair ledger base c ∷ rest) (upto_all cs q order))

    pub upto_none : (cells : List (ℕ × X)) (q : ℕ) → q < ledger → filter (λ e. leb e.0.ledger q) (cell_pairs ledger base cells) ≡ []
    upto_none [] q order = refl
    upto_none (c ∷ cs) q order = rw (lt-leb ledger q order) (upto_none cs q order)
