-- Pairs of a run behind other pairs, and as cells of a packed page.
use Rattle.std.proofs.Common.{◌≡◌, ◌⊎◌, inl, inr, ℕ, zero, suc, ◌+◌, ◌*◌, ◌<◌, ◌-◌, List, [], ◌∷◌, ◌++◌, length, get_or, slice_get, Some, refl, sym, ap, subst, ◌∙◌, arith}
use Rattle.std.proofs.Common.{append_assoc, length-append}
use Rattle.std.proofs.lemmas.List.{append-nil}
use Rattle.std.specs.declared.cmp.Ordering.TheVariants.{Less, Equal}
use Rattle.std.specs.Ordering.{nat_cmp, ordering_then}
use Rattle.std.specs.Cmp.{nat_cmp_is}
use Rattle.std.specs.Bool.{IsTrue}
use Rattle.std.specs.List.{AllByRecursion}
use Rattle.std.specs.FinMap.{put, is_sorted}
use Rattle.bk_record.specs.Key.{EntryKey, key_cmp}
use Rattle.bk_record.specs.Location.{Place}
use Rattle.bk_record.proofs.Keys.{key_cmp_total}
use Rattle.bk_record.proofs.SortedPairs.{is_sorted_put}
use Rattle.bk_index.specs.Pages.{first_key}
use Rattle.bk_index.specs.Packed.{cell_pair, cell_pairs}
use Rattle.bk_index.specs.Runs.{key_behind, place_behind, key_of_run, place_of_run, pairs_of_run, cells_of_run, put_run}
use Rattle.bk_index.proofs.CutPairs.{each_weaker, put_behind, put_before}
use Rattle.bk_index.proofs.PackedPairs.{cells_length, cells_append}
use Rattle.bk_index.proofs.PackedPlaces.{gap_at_last}

-- ---- keys of a run

-- a key of a greater ledger, or of the same with a greater entry
pub less_key : (a b : EntryKey) → (a.ledger < b.ledger) ⊎ ((a.ledger ≡ b.ledger) × (a.entry < b.entry)) → key_cmp a b ≡ Less
less_key a b before = elim before [
  | inl below ↦ ap (λ r. ordering_then r (nat_cmp a.entry b.entry)) (sym (nat_cmp_is a.ledger b.ledger Less below))
  | inr own ↦
      ap (λ r. ordering_then r (nat_cmp a.entry b.entry)) (sym (nat_cmp_is a.ledger b.ledger Equal own.0))
      ∙ sym (nat_cmp_is a.entry b.entry Less own.1)
]

pub key_of_run-zero : (key : EntryKey) → key ≡ key_of_run key 0
key_of_run-zero key = let entry : key.entry ≡ key.entry + 0 = omega arith in (λ i. record { ledger = key.ledger; entry = entry i })

pub key_of_run-behind : (key : EntryKey) (i : ℕ) → key_of_run key (suc i) ≡ key_of_run (key_behind key) i
key_of_run-behind key i =
    let entry : key.entry + suc i ≡ (key.entry + 1) + i = omega arith in (λ j. record { ledger = key.ledger; entry = entry j })

-- a key before a key of a run is before all later ones
pub before_run : (k key : EntryKey) (i : ℕ) → key_cmp k key ≡ Less → key_cmp k (key_of_run key i) ≡ Less
before_run k key zero less = subst (λ (q : EntryKey). key_cmp k q ≡ Less) (key_of_run-zero key) less
before_run k key (suc i) less =
    key_cmp_total.trans k key (key_of_run key (suc i)) less (less_key key (key_of_run key (suc i)) (inr (refl, omega arith)))

before_next : (k key : EntryKey) → key_cmp k key ≡ Less → key_cmp k (key_behind key) ≡ Less
before_next k key less = before_run k key 1 less

pub each_more : {A : Type 0} (P : A → Type 0) (xs : List A) (x : A) → AllByRecursion P xs → P x → AllByRecursion P (xs ++ x ∷ [])
each_more P [] x each holds = (holds, tt)
each_more P (y ∷ ys) x each holds = (each.0, each_more P ys x each.1 holds)

pub each_read : {A : Type 0} (P : A → Type 0) (xs : List A) → ((i : ℕ) (x : A) → i < length xs → slice_get xs i ≡ Some x → P x) → AllByRecursion P xs
each_read P [] at = tt
each_read P (x ∷ xs) at = (at 0 x (omega arith) refl, each_read P xs (λ i y within there. at (suc i) y (omega arith) there))

-- ---- pairs of a run, put in among others

abbrev pub AreBefore : EntryKey → List (EntryKey × Place) → Type 0
AreBefore key pairs = AllByRecursion (λ pair. key_cmp pair.0 key ≡ Less) pairs

abbrev pub AreBehind : EntryKey → List (EntryKey × Place) → Type 0
AreBehind key pairs = AllByRecursion (λ pair. key_cmp key pair.0 ≡ Less) pairs

before_behind : (key : EntryKey) (xs : List (EntryKey × Place)) → AreBefore key xs → AreBefore (key_behind key) xs
before_behind key xs before = each_weaker _ _ (λ pair less. before_next pair.0 key less) xs before

-- a run is put in behind smaller keys
pub put_run_behind : (xs ys : List (EntryKey × Place)) (key : EntryKey) (place : Place) (size n : ℕ) → (0 < n → AreBefore key xs)
    → put_run (xs ++ ys) key place size n ≡ xs ++ put_run ys key place size n
put_run_behind xs ys key place size zero before = refl
put_run_behind xs ys key place size (suc n) before =
    let smaller : AreBefore key xs = before (omega arith) in
    ap (λ pairs. put_run pairs (key_behind key) (place_behind place size) size n) (put_behind key_cmp_total key place xs ys smaller)
    ∙ put_run_behind xs (put key_cmp key place ys) (key_behind key) (place_behind place size) size n (λ _. before_behind key xs smaller)

-- a run between smaller and greater keys stands between them
pub put_run_between : (xs ys : List (EntryKey × Place)) (key : EntryKey) (place : Place) (size n : ℕ) → (0 < n → AreBefore key xs)
    → ((i : ℕ) → i < n → AreBehind (key_of_run key i) ys) → put_run (xs ++ ys) key place size n ≡ (xs ++ pairs_of_run key place size n) ++ ys
put_run_between xs ys key place size zero before behind = ap (λ front. front ++ ys) (sym (append-nil xs))
put_run_between xs ys key place size (suc n) before behind =
    let smaller : AreBefore key xs = before (omega arith) in
    let greater : AreBehind key ys = subst (λ (q : EntryKey). AreBehind q ys) (sym (key_of_run-zero key)) (behind 0 (omega arith)) in
    let front = xs ++ (key, place) ∷ [] in
    let rest = pairs_of_run (key_behind key) (place_behind place size) size n in
    let first : put key_cmp key place (xs ++ ys) ≡ front ++ ys =
    put_behind key_cmp_total key place xs ys smaller ∙ ap (λ back. xs ++ back) (put_before key_cmp_total key place [] ys greater)
    ∙ sym (append_assoc xs ((key, place) ∷ []) ys) in
    let less : key_cmp key (key_behind key) ≡ Less = less_key key (key_behind key) (inr (refl, omega arith)) in
    let own : AreBefore (key_behind key) front =
    each_more (λ pair. key_cmp pair.0 (key_behind key) ≡ Less) xs (key, place) (before_behind key xs smaller) less in
    ap (λ pairs. put_run pairs (key_behind key) (place_behind place size) size n) first
    ∙ put_run_between front ys (key_behind key) (place_behind place size) size n (λ _. own)
    (λ i inside. subst (λ (q : EntryKey). AreBehind q ys) (key_of_run-behind key i) (behind (suc i) (omega arith)))
    ∙ ap (λ all. all ++ ys) (append_assoc xs ((key, place) ∷ []) rest)

-- a run is put in at the end of smaller keys
pub put_run_end : (xs : List (EntryKey × Place)) (key : EntryKey) (place : Place) (size n : ℕ) → (0 < n → AreBefore key xs)
    → put_run xs key place size n ≡ xs ++ pairs_of_run key place size n
put_run_end xs key place size n before =
    ap (λ pairs. put_run pairs key place size n) (sym (append-nil xs)) ∙ put_run_between xs [] key place size n before (λ _ _. tt)
    ∙ append-nil (xs ++ pairs_of_run key place size n)

pub is_sorted_put_run : (xs : List (EntryKey × Place)) (key : EntryKey) (place : Place) (size n : ℕ) → IsTrue (is_sorted key_cmp xs)
    → IsTrue (is_sorted key_cmp (put_run xs key place size n))
is_sorted_put_run xs key place size zero sorted = sorted
is_sorted_put_run xs key place size (suc n) sorted =
    is_sorted_put_run (put key_cmp key place xs) (key_behind key) (place_behind place size) size n (is_sorted_put key_cmp_total key place xs sorted)

pub length_run : (key : EntryKey) (place : Place) (size n : ℕ) → length (pairs_of_run key place size n) ≡ n
length_run key place size zero = refl
length_run key place size (suc n) = omega (arith, length_run (key_behind key) (place_behind place size) size n)

-- the first key stays where pairs are added behind
pub first_front : (xs ys : List (EntryKey × Place)) → 0 < length xs → first_key (xs ++ ys) ≡ first_key xs
first_front [] ys some = absurd (omega arith)
first_front (x ∷ xs) ys some = refl

-- ---- cells of a run

cells_more : (offset : ℕ) (place : Place) (size n : ℕ)
    → cells_of_run offset place size (suc n) ≡ cells_of_run offset place size n ++ (offset + n, place_of_run place size n) ∷ []
cells_more offset place size zero =
    let from : offset ≡ offset + 0 = omega arith in
    let at : place.at ≡ place.at + 0 * size = omega arith in
    (λ i. (from i, record { log = place.log; at = at i }) ∷ [])
cells_more offset place size (suc n) =
    let from : (offset + 1) + n ≡ offset + suc n = omega arith in
    let at : (place.at + size) + n * size ≡ place.at + suc n * size = omega arith in
    let rest = cells_of_run (offset + 1) (place_behind place size) size n in
    ap (λ back. (offset, place) ∷ back) (cells_more (offset + 1) (place_behind place size) size n
    ∙ (λ i. rest ++ (from i, record { log = place.log; at = at i }) ∷ []))

-- a run of one key more ends with the cell of that key
pub cells_one_more : (offset : ℕ) (place : Place) (size n : ℕ)
    → cells_of_run offset place size (n + 1) ≡ cells_of_run offset place size n ++ (offset + n, place_of_run place size n) ∷ []
cells_one_more offset place size n =
    let next : n + 1 ≡ suc n = omega arith in
    ap (cells_of_run offset place size) next ∙ cells_more offset place size n

-- the cells of a run have its pairs
pub cells_run : (ledger base offset : ℕ) (place : Place) (size n : ℕ)
    → cell_pairs ledger base (cells_of_run offset place size n) ≡ pairs_of_run (record { ledger = ledger; entry = base + offset }) place size n
cells_run ledger base offset place size zero = refl
cells_run ledger base offset place size (suc n) =
    let entry : base + (offset + 1) ≡ (base + offset) + 1 = omega arith in
    ap (λ rest. cell_pair ledger base (offset, place) ∷ rest) (cells_run ledger base (offset + 1) (place_behind place size) size n
    ∙ (λ i. pairs_of_run (record { ledger = ledger; entry = entry i }) (place_behind place size) size n))

-- cells of a run whose first key has this offset in a page
module _ (ledger base : ℕ) (cells : List (ℕ × Place)) (key : EntryKey) (offset : ℕ) (named : key ≡ record { ledger = ledger; entry = base + offset }) where
  -- the pairs of the page, with the run added, are the old ones and those of the run
  pub cells_and_run : (place : Place) (size n : ℕ)
      → cell_pairs ledger base (cells ++ cells_of_run offset place size n) ≡ cell_pairs ledger base cells ++ pairs_of_run key place size n
  cells_and_run place size n =
      cells_append ledger base cells (cells_of_run offset place size n)
      ∙ ap (λ run. cell_pairs ledger base cells ++ run) (cells_run ledger base offset place size n ∙ ap (λ q. pairs_of_run q place size n) (sym named))

  pub length_and_run : (place : Place) (size n : ℕ) → length (cell_pairs ledger base (cells ++ cells_of_run offset place size n)) ≡ length cells + n
  length_and_run place size n =
      let pairs = cell_pairs ledger base cells in
      omega (
        arith,
        ap length (cells_and_run place size n),
        length-append pairs (pairs_of_run key place size n),
        length_run key place size n,
        cells_length ledger base cells,
      )

  module _ (sorted : IsTrue (is_sorted key_cmp (cell_pairs ledger base cells))) where
    -- all keys of the page are before a key whose offset is greater than the last one
    pub cells_before : (cell : ℕ × Place) → 0 < length cells → cell ≡ get_or cells (length cells - 1) cell → cell.0 < offset
        → AreBefore key (cell_pairs ledger base cells)
    cells_before cell some read less =
        let gap = gap_at_last ledger base cells sorted key offset named cell some read less in
        each_read (λ pair. key_cmp pair.0 key ≡ Less) (cell_pairs ledger base cells)
        (λ i pair inside there. gap.smaller_before i pair (omega (arith, inside, cells_length ledger base cells)) there)

    pub is_sorted_and_run : (place : Place) (size n : ℕ) → (0 < n → AreBefore key (cell_pairs ledger base cells))
        → IsTrue (is_sorted key_cmp (cell_pairs ledger base (cells ++ cells_of_run offset place size n)))
    is_sorted_and_run place size n before =
        let pairs = cell_pairs ledger base cells in
        subst (λ (all : List (EntryKey × Place)). IsTrue (is_sorted key_cmp all)) (put_run_end pairs key place size n before ∙ sym (cells_and_run place size n))
        (is_sorted_put_run pairs key place size n sorted)
